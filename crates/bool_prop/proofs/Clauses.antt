-- Clauses over a box: open and true literals, and what they make of the clause.
use Rattle.std.proofs.Common.{◌≡◌, ℕ, suc, zero, ◌+◌, ◌<◌, ◌≤◌, ◌⊎◌, List, [], ◌∷◌, ◌++◌, length, get_or, drop, refl, sym, subst, ap, ◌∙◌, arith, Bool, true, false, inl, inr, length-append}
use Rattle.std.specs.Prelude.{ℤ, pos, ◌≤ℤ◌, ◌<ℤ◌, All, Any, Contains, filter}
use Rattle.std.proofs.lemmas.Int.{ints}
use Rattle.std.proofs.lemmas.List.{get_or_default, drop_all}
use Rattle.std.proofs.lemmas.List.Elements.{filter-append}
use Rattle.fzn_model.specs.declared.term.Term.{Term}
use Rattle.fzn_model.specs.declared.term.Term.TheVariants as term
use Rattle.fzn_model.specs.declared.clause.Clause.{Clause}
use Rattle.fzn_model.specs.Meaning.{val, Holds, HasValue}
use Rattle.fzn_model.specs.Limits.{TermIn, ClauseInLimits}
use Rattle.fzn_model.specs.Boxes.{IsBox, InBox}
use Rattle.dom_store.specs.declared.pass.Passed.TheVariants as passed
use Rattle.dom_store.specs.declared.pass.Passed.{Passed}
use Rattle.dom_store.specs.Stores.{Stored}
use Rattle.dom_store.specs.Narrowing.{HasNone}
use Rattle.dom_store.specs.Steps.{Step, NarrowsTerm, Is, ValueIs}
use Rattle.dom_store.proofs.Stepping.{narrowed, step_idle, step_none, step_as}
use Rattle.fzn_model.specs.Bounds.{term_low, term_high, IsFixed, IsAt, is_open}
use Rattle.dom_store.specs.Strength.{HasTrue, ClauseIsStrong, IsChecked, IsOwed, ConIsOwed}
use Rattle.fzn_model.proofs.Terms.{has_low, has_between, fixed_val, at_val}
use Rattle.bool_prop.specs.Parts.{clause_con}
use Rattle.bool_prop.specs.Opens.{joined, opens, IsLast, Finds}
use Rattle.bool_prop.specs.declared.clause.Open.{Open}
use Rattle.bool_prop.specs.declared.clause.Open.TheVariants as opened
use Rattle.bool_prop.specs.declared.clause.Literals.TheVariants as literals
use Rattle.dom_store.proofs.Comparing.{lt_test, lt_fails}
use Rattle.bool_prop.proofs.Filters.{filter_each, filter_from, filter_pass, filter_fail}

-- ---- the open terms of a list, one after the other
pub second_open : (found : Open) (t : Term) (us : List Term) → (found ≡ opened.None → ⊥) → joined found (t ∷ us) ≡ opened.More
second_open opened.None t us some = absurd (some refl)
second_open (opened.One u) t us some = refl
second_open opened.More t us some = refl

pub first_open : (t : Term) (us : List Term) → joined opened.None (t ∷ us) ≡ joined (opened.One t) us
first_open t [] = refl
first_open t (u ∷ us) = refl

pub all_joined : (found : Open) → joined found [] ≡ found
all_joined opened.None = refl
all_joined (opened.One t) = refl
all_joined opened.More = refl

-- the loop over a list: at the start, an open term more, one that is not the first, one that is not open, at the end
abbrev rest : List (List ℤ) → List Term → ℕ → List Term
rest box ts i = filter (is_open box) (drop i ts)

pub none_yet : (box : List (List ℤ)) (ts : List Term) → opens box ts ≡ joined opened.None (filter (is_open box) ts)
unfolding opens
none_yet box ts = refl

pub open_more : (box : List (List ℤ)) (ts : List Term) (i : ℕ) (t : Term) → i < length ts → get_or ts i t ≡ t → is_open box t ≡ true → opens box ts ≡ joined opened.None (rest box ts i) → opens box ts ≡ joined (opened.One t) (rest box ts (i + 1))
open_more box ts i t h is passes so_far = so_far ∙ ap (joined opened.None) (filter_pass (is_open box) ts i t h is passes) ∙ first_open t (rest box ts (i + 1))

pub open_again : (box : List (List ℤ)) (ts : List Term) (i : ℕ) (t : Term) (found : Open) → i < length ts → get_or ts i t ≡ t → is_open box t ≡ true → (found ≡ opened.None → ⊥) → opens box ts ≡ joined found (rest box ts i) → opened.More ≡ opens box ts
open_again box ts i t found h is passes some so_far = sym (so_far ∙ ap (joined found) (filter_pass (is_open box) ts i t h is passes) ∙ second_open found t (rest box ts (i + 1)) some)

pub open_not : (box : List (List ℤ)) (ts : List Term) (i : ℕ) (t : Term) (found : Open) → i < length ts → get_or ts i t ≡ t → is_open box t ≡ false → opens box ts ≡ joined found (rest box ts i) → opens box ts ≡ joined found (rest box ts (i + 1))
open_not box ts i t found h is fails so_far = so_far ∙ ap (joined found) (filter_fail (is_open box) ts i t h is fails)

pub open_end : (box : List (List ℤ)) (ts : List Term) (i : ℕ) (found : Open) → length ts ≤ i → opens box ts ≡ joined found (rest box ts i) → found ≡ opens box ts
open_end box ts i found h so_far = sym (so_far ∙ ap (λ us. joined found (filter (is_open box) us)) (drop_all i ts h) ∙ all_joined found)

-- ---- fixed terms
open_apart : (box : List (List ℤ)) (t : Term) → is_open box t ≡ true → IsFixed box t → ⊥
open_apart box t is fixed = let less : term_low box t <ℤ term_high box t = lt_test _ _ is in let one : term_low box t ≡ term_high box t = fixed in omega (arith, ints)

closed_fixed : (box : List (List ℤ)) (t : Term) → IsBox box → TermIn (length box) t → is_open box t ≡ false → IsFixed box t
closed_fixed box t well_formed inside is =
    let most : term_high box t ≤ℤ term_low box t = lt_fails _ _ is in
    let least : term_low box t ≤ℤ term_high box t = (has_between box t (term_low box t) well_formed inside (has_low box t well_formed inside)).1 in
    omega (arith, ints)

-- a place is open, and passes, or it is fixed
place_is : (box : List (List ℤ)) (ts : List Term) (k : ℕ) (d : Term) → IsBox box → All (TermIn (length box)) ts → k < length ts → Contains (filter (is_open box) ts) (get_or ts k d) ⊎ IsFixed box (get_or ts k d)
place_is box ts k d well_formed kept h = by_test (is_open box (get_or ts k d)) refl
  where
    by_test : (b : Bool) → is_open box (get_or ts k d) ≡ b → Contains (filter (is_open box) ts) (get_or ts k d) ⊎ IsFixed box (get_or ts k d)
    by_test true is = inl (filter_each (is_open box) ts k d h is)
    by_test false is = inr (closed_fixed box (get_or ts k d) well_formed (kept k d h) is)

-- what the open terms of a list are, from what is found
abbrev Listed : Open → List Term → Type 0
Listed opened.None ts = ts ≡ []
Listed (opened.One t) ts = ts ≡ t ∷ []
Listed opened.More ts = 2 ≤ length ts

listed : (ts : List Term) → Listed (joined opened.None ts) ts
listed [] = refl
listed (t ∷ []) = refl
listed (t ∷ u ∷ us) = omega arith

opens_listed : (box : List (List ℤ)) (ts : List Term) (found : Open) → opens box ts ≡ found → Listed found (filter (is_open box) ts)
unfolding opens
opens_listed box ts found is = subst (λ o. Listed o (filter (is_open box) ts)) is (listed (filter (is_open box) ts))

none_open : (box : List (List ℤ)) (ts : List Term) → IsBox box → All (TermIn (length box)) ts → opens box ts ≡ opened.None → All (IsFixed box) ts
none_open box ts well_formed kept is k d h = elim (place_is box ts k d well_formed kept h) [
  | inl has ↦ let here : Contains [] (get_or ts k d) = subst (λ us. Contains us (get_or ts k d)) (opens_listed box ts opened.None is) has in absurd (omega (arith, here.1))
  | inr fixed ↦ fixed
]

only_is : (t u : Term) → Contains (t ∷ []) u → u ≡ t
only_is t u (zero, h, e) = sym e
only_is t u (suc k, h, e) = absurd (omega arith)

one_open : (box : List (List ℤ)) (ts : List Term) (t : Term) → IsBox box → All (TermIn (length box)) ts → opens box ts ≡ opened.One t → All (λ u. IsFixed box u ⊎ (u ≡ t)) ts
one_open box ts t well_formed kept is k d h = elim (place_is box ts k d well_formed kept h) [
  | inl has ↦ inr (only_is t _ (subst (λ us. Contains us (get_or ts k d)) (opens_listed box ts (opened.One t) is) has))
  | inr fixed ↦ inl fixed
]

one_there : (box : List (List ℤ)) (ts : List Term) (t : Term) → opens box ts ≡ opened.One t → Contains ts t
one_there box ts t is = (filter_from (is_open box) ts t (subst (λ us. Contains us t) (sym (opens_listed box ts (opened.One t) is)) (zero, omega arith, refl))).0

-- ---- literals that are true
true_at : (box : List (List ℤ)) (t : Term) (v : ℤ) (θ : List ℤ) → IsBox box → TermIn (length box) t → InBox box θ → IsFixed box t → val t θ ≡ v → IsAt box t v
true_at box t v θ well_formed inside lies fixed is =
    let one : val t θ ≡ term_low box t = fixed_val box t θ well_formed inside fixed lies in
    record { low = sym one ∙ is; high = sym fixed ∙ sym one ∙ is }

-- what holds at a place of a list that has the term
at_place : (P : Term → Type 0) (ts : List Term) (k : ℕ) (t : Term) → All P ts → k < length ts → get_or ts k t ≡ t → P t
at_place P ts k t all h is = subst P is (all k t h)

module _ (box : List (List ℤ)) (c : Clause) (well_formed : IsBox box) (kept : ClauseInLimits (length box) c) where
  -- a true literal makes the clause hold
  true_holds : HasTrue box c → (θ : List ℤ) → InBox box θ → Holds (clause_con c) θ
  unfolding HasTrue HasValue
  true_holds (inl (k, t, h, is, at)) θ lies = inl (k, t, h, is, at_val box t (pos 1) θ well_formed (at_place (TermIn (length box)) c.pos k t kept.pos.terms h is) at lies)
  true_holds (inr (k, t, h, is, at)) θ lies = inr (k, t, h, is, at_val box t (pos 0) θ well_formed (at_place (TermIn (length box)) c.neg k t kept.neg.terms h is) at lies)

  pub true_owed : HasTrue box c → IsOwed box (clause_con c)
  unfolding ClauseIsStrong IsChecked
  true_owed some = record { kind = inl some; checked = λ fixed θ lies. true_holds some θ lies }

  -- where each literal is fixed or has its value by R, one that is true under an assignment is true, or has it by R
  some_value : (ts : List Term) (v : ℤ) (R : Term → Type 0) (θ : List ℤ) → All (TermIn (length box)) ts → All (λ u. IsFixed box u ⊎ R u) ts → InBox box θ → HasValue ts v θ
      → Any (λ t. IsAt box t v) ts ⊎ ((t : Term) × R t × (val t θ ≡ v))
  unfolding HasValue
  some_value ts v R θ inside all lies (k, t, h, is, value) = elim (at_place (λ u. IsFixed box u ⊎ R u) ts k t all h is) [
    | inl fixed ↦ inl (k, t, h, is, true_at box t v θ well_formed (at_place (TermIn (length box)) ts k t inside h is) lies fixed value)
    | inr by ↦ inr (t, by, value)
  ]

  all_left : (ts : List Term) → All (IsFixed box) ts → All (λ u. IsFixed box u ⊎ ⊥) ts
  all_left ts all k d h = inl (all k d h)

  fixed_none : All (IsFixed box) c.pos → All (IsFixed box) c.neg → (HasTrue box c → ⊥) → HasNone (Holds (clause_con c)) box
  unfolding HasTrue
  fixed_none pos_fixed neg_fixed none θ lies (inl has) = elim (some_value c.pos (pos 1) (λ u. ⊥) θ kept.pos.terms (all_left c.pos pos_fixed) lies has) [ inl some ↦ none (inl some) | inr (t, by, value) ↦ by ]
  fixed_none pos_fixed neg_fixed none θ lies (inr has) = elim (some_value c.neg (pos 0) (λ u. ⊥) θ kept.neg.terms (all_left c.neg neg_fixed) lies has) [ inl some ↦ none (inr some) | inr (t, by, value) ↦ by ]

  last_positive : (t : Term) → Contains c.pos t → All (λ u. IsFixed box u ⊎ (u ≡ t)) c.pos → All (IsFixed box) c.neg → IsLast box c t (pos 1)
  unfolding HasTrue
  last_positive t (k, h, is) pos_fixed neg_fixed = record {
    inside = at_place (TermIn (length box)) c.pos k t kept.pos.terms h is;
    makes = λ new at. inl (k, t, h, is, at);
    needs = λ none θ lies holds. elim holds [
      | inl has ↦ elim (some_value c.pos (pos 1) (λ u. u ≡ t) θ kept.pos.terms pos_fixed lies has) [ inl some ↦ absurd (none (inl some)) | inr (u, same, value) ↦ subst (λ w. val w θ ≡ pos 1) same value ]
      | inr has ↦ elim (some_value c.neg (pos 0) (λ u. ⊥) θ kept.neg.terms (all_left c.neg neg_fixed) lies has) [ inl some ↦ absurd (none (inr some)) | inr (u, by, value) ↦ absurd by ]
    ];
  }

  last_negative : (t : Term) → Contains c.neg t → All (IsFixed box) c.pos → All (λ u. IsFixed box u ⊎ (u ≡ t)) c.neg → IsLast box c t (pos 0)
  unfolding HasTrue
  last_negative t (k, h, is) pos_fixed neg_fixed = record {
    inside = at_place (TermIn (length box)) c.neg k t kept.neg.terms h is;
    makes = λ new at. inr (k, t, h, is, at);
    needs = λ none θ lies holds. elim holds [
      | inl has ↦ elim (some_value c.pos (pos 1) (λ u. ⊥) θ kept.pos.terms (all_left c.pos pos_fixed) lies has) [ inl some ↦ absurd (none (inl some)) | inr (u, by, value) ↦ absurd by ]
      | inr has ↦ elim (some_value c.neg (pos 0) (λ u. u ≡ t) θ kept.neg.terms neg_fixed lies has) [ inl some ↦ absurd (none (inr some)) | inr (u, same, value) ↦ subst (λ w. val w θ ≡ pos 0) same value ]
    ];
  }

  -- ---- what is found in both lists
  pub finds_none : opens box c.pos ≡ opened.None → opens box c.neg ≡ opened.None → Finds box c literals.None
  unfolding Finds
  finds_none p n = fixed_none (none_open box c.pos well_formed kept.pos.terms p) (none_open box c.neg well_formed kept.neg.terms n)

  pub finds_positive : (t : Term) → opens box c.pos ≡ opened.One t → opens box c.neg ≡ opened.None → Finds box c (literals.One t (pos 1))
  unfolding Finds
  finds_positive t p n = last_positive t (one_there box c.pos t p) (one_open box c.pos t well_formed kept.pos.terms p) (none_open box c.neg well_formed kept.neg.terms n)

  pub finds_negative : (t : Term) → opens box c.pos ≡ opened.None → opens box c.neg ≡ opened.One t → Finds box c (literals.One t (pos 0))
  unfolding Finds
  finds_negative t p n = last_negative t (one_there box c.neg t n) (none_open box c.pos well_formed kept.pos.terms p) (one_open box c.neg t well_formed kept.neg.terms n)

-- two open places, whichever lists they are in
abbrev fewest : Open → ℕ
fewest opened.None = 0
fewest (opened.One t) = 1
fewest opened.More = 2

listed_count : (found : Open) (ts : List Term) → Listed found ts → fewest found ≤ length ts
listed_count opened.None ts is = omega arith
listed_count (opened.One t) ts is = subst (λ us. 1 ≤ length us) (sym is) (omega arith)
listed_count opened.More ts is = is

pub finds_more : (box : List (List ℤ)) (c : Clause) (p n : Open) → opens box c.pos ≡ p → opens box c.neg ≡ n → 2 ≤ fewest p + fewest n → Finds box c literals.More
unfolding Finds
finds_more box c p n p_is n_is enough =
    let first = listed_count p (filter (is_open box) c.pos) (opens_listed box c.pos p p_is) in
    let then = listed_count n (filter (is_open box) c.neg) (opens_listed box c.neg n n_is) in
    let both = ap length (filter-append (is_open box) c.pos c.neg) in
    let long = length-append (filter (is_open box) c.pos) (filter (is_open box) c.neg) in
    omega (arith, first, then, both, long)

-- two open literals are all that is owed
pub more_owed : (box : List (List ℤ)) (c : Clause) → Finds box c literals.More → IsOwed box (clause_con c)
unfolding Finds ClauseIsStrong IsChecked
more_owed box c enough = record { kind = inr enough; checked = λ fixed θ lies. absurd (some_open fixed) }
  where
    some_open : All (IsFixed box) (c.pos ++ c.neg) → ⊥
    some_open fixed =
        let t : Term = get_or (filter (is_open box) (c.pos ++ c.neg)) 0 (term.Const (pos 0)) in
        let first : Contains (filter (is_open box) (c.pos ++ c.neg)) t = (0, omega arith, get_or_default (filter (is_open box) (c.pos ++ c.neg)) 0 t (term.Const (pos 0)) (omega arith)) in
        let both = filter_from (is_open box) (c.pos ++ c.neg) t first in
        open_apart box t both.1 (at_place (IsFixed box) (c.pos ++ c.neg) both.0.0 t fixed both.0.1 both.0.2)

-- ---- what the steps reach
pub last_found : (box : List (List ℤ)) (c : Clause) (t : Term) (v : ℤ) → Finds box c (literals.One t v) → IsLast box c t v
unfolding Finds
last_found box c t v finds = finds

-- the last open literal
pub last_fixed : (c : Clause) (t : Term) (v : ℤ) (old new : Stored) (result : Passed) → IsBox old.box → ClauseInLimits (length old.box) c → IsLast old.box c t v → (HasTrue old.box c → ⊥)
    → NarrowsTerm (Is v) (ValueIs t v) t old new result → Step (ConIsOwed (clause_con c)) (Holds (clause_con c)) old new result
unfolding ValueIs
last_fixed c t v old new result well_formed limits last none narrows =
    step_as (ValueIs t v) (ConIsOwed (clause_con c)) (Holds (clause_con c)) old new result
    (λ same at. true_owed new.box c (subst (λ b. IsBox b) (sym same) well_formed) (subst (λ b. ClauseInLimits (length b) c) (sym same) limits) (last.makes new.box at))
    (narrowed (Holds (clause_con c)) narrows (last.needs none))

pub true_left : (s : Stored) (c : Clause) → IsBox s.box → ClauseInLimits (length s.box) c → HasTrue s.box c → Step (ConIsOwed (clause_con c)) (Holds (clause_con c)) s s passed.Done
true_left s c well_formed limits some = step_idle (ConIsOwed (clause_con c)) (Holds (clause_con c)) s well_formed (true_owed s.box c well_formed limits some)

pub closed_left : (s : Stored) (c : Clause) → IsBox s.box → Finds s.box c literals.None → (HasTrue s.box c → ⊥) → Step (ConIsOwed (clause_con c)) (Holds (clause_con c)) s s passed.Empty
unfolding Finds
closed_left s c well_formed finds none = step_none (ConIsOwed (clause_con c)) (Holds (clause_con c)) s well_formed (finds none)

pub more_left : (s : Stored) (c : Clause) → IsBox s.box → Finds s.box c literals.More → Step (ConIsOwed (clause_con c)) (Holds (clause_con c)) s s passed.Done
more_left s c well_formed finds = step_idle (ConIsOwed (clause_con c)) (Holds (clause_con c)) s well_formed (more_owed s.box c finds)
