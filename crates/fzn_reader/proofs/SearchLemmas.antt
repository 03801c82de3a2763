-- Picks, and their variables.
use Rattle.std.proofs.Common.{◌≡◌, ℕ, zero, suc, ◌+◌, ◌-◌, ◌<◌, List, [], ◌∷◌, ◌++◌, Ok, length, get_or, drop, refl, sym, ap, ◌∙◌, arith, add-one, ℤ}
use Rattle.std.specs.Prelude.{All, IfSome, is_ok, codes}
use Rattle.std.specs.Str.{bytes_eq}
use Rattle.std.proofs.Math.Seq.{drop-cons}
use Rattle.std.proofs.lemmas.List.Elements.{All-push}
use Rattle.fzn_lexer.specs.Spots.{Spot, first, after_first}
use Rattle.fzn_model.specs.declared.term.Term.{Term}
use Rattle.fzn_model.specs.declared.pick.Pick.{Pick}
use Rattle.fzn_model.specs.Limits.{TermIn, PickInLimits}
use Rattle.fzn_reader.specs.Names.{Names}
use Rattle.fzn_reader.specs.declared.decl.Decl.{Decl}
use Rattle.fzn_reader.specs.declared.decl.Decl.TheVariants as decl
use Rattle.fzn_reader.specs.Search.{with_variable, with_variables, array_terms, picks_at, picks_by, search_list_at}
use Rattle.fzn_reader.specs.Invariants.{DeclKept}

pub terms_push : (n : ℕ) (vars : List Term) (t : Term) → TermIn n t → All (TermIn n) vars → All (TermIn n) (vars ++ t ∷ [])
terms_push n vars t p q = All-push (TermIn n) vars t q p

-- the term at i, behind the variables of those before it
pub variables_step : (vars new all : List Term) (terms : List Term) (i : ℕ) (d : Term) → i < length terms → new ≡ with_variable vars (get_or terms i d) → with_variables vars (drop i terms) ≡ all → with_variables new (drop (i + 1) terms) ≡ all
variables_step vars new all terms i d h e told = rw (e, add-one) (sym (ap (with_variables vars) (drop-cons terms i d h)) ∙ told)

pub array_kept : (ds : List (List (ℤ × ℤ))) (e : Decl) → DeclKept ds e → IfSome (array_terms e) (All (TermIn (length ds)))
array_kept ds (decl.Ints parameters ts) p = p.terms
array_kept ds (decl.Bools parameters ts) p = λ k t h. (p.each k t h).within
array_kept ds e p = tt

pub picks_push : (n : ℕ) (picks : List Pick) (p : Pick) → PickInLimits n p → All (PickInLimits n) picks → All (PickInLimits n) (picks ++ p ∷ [])
picks_push n picks p k q = All-push (PickInLimits n) picks p q k

pub picks_is : (levels : ℕ) (names : Names) (picks : List Pick) (ts : List Spot) → 0 < levels → picks_at levels names picks ts ≡ picks_by (bytes_eq (first ts).text (codes "seq_search")) (is_ok (search_list_at (after_first ts))) (picks_at (levels - 1) names) names picks ts
unfolding picks_at
picks_is zero names picks ts h = absurd (omega arith)
picks_is (suc levels) names picks ts h = let e : levels ≡ suc levels - 1 = omega arith in ap (λ k. picks_by (bytes_eq (first ts).text (codes "seq_search")) (is_ok (search_list_at (after_first ts))) (picks_at k names) names picks ts) e

pub picks_none : (levels : ℕ) (names : Names) (picks : List Pick) (ts : List Spot) → levels ≡ 0 → picks_at levels names picks ts ≡ Ok picks
unfolding picks_at
picks_none levels names picks ts h = rw h refl
