-- Ints, bools, and lists of them and of sets: what is read is what their rules make, and what these make is read.
use Rattle.std.proofs.Common.{◌≡◌, ℕ, ◌+◌, ◌<◌, List, [], ◌∷◌, ◌++◌, length, Bool, true, false, cond, ◌&&◌, not, Option, Some, None, Result, Ok, Err, refl, sym, ap, subst, ◌∙◌, inl, inr, codes, ℤ, arith}
use Rattle.std.specs.Prelude.{option_map}
use Rattle.std.specs.Str.{bytes_eq}
use Rattle.std.proofs.lemmas.List.{length-append}
use Rattle.fzn_lexer.specs.Spots.{Spot, first, after_first}
use Rattle.fzn_lexer.specs.declared.kind.Kind.TheVariants as kind
use Rattle.fzn_model.specs.declared.term.Term.{Term}
use Rattle.fzn_model.specs.declared.term.Term.TheVariants.{Const}
use Rattle.fzn_reader.specs.declared.begin.Begin.{Begin}
use Rattle.fzn_reader.specs.declared.begin.Begin.TheVariants as begin
use Rattle.fzn_reader.specs.declared.code.Code.TheVariants as code
use Rattle.fzn_reader.specs.declared.decl.Decl.{Decl}
use Rattle.fzn_reader.specs.declared.scalar.Scalar.{Scalar}
use Rattle.fzn_reader.specs.declared.refused.Refused.{Refused}
use Rattle.fzn_reader.specs.Refusals.{◌>>=◌ as ◌then◌, refuse, value_or, is_kind, is_spelled, is_reserved, is_mark, is_word, separator_at, most, repeat}
use Rattle.fzn_reader.specs.Names.{Names, find_name}
use Rattle.fzn_reader.specs.Numbers.{number_in}
use Rattle.fzn_reader.specs.Exprs.{begins}
use Rattle.fzn_reader.specs.Types.{set_at}
use Rattle.fzn_reader.specs.Scalars.{takes_numbers, truth_term, fitting_term, named_term, constant_of, scalar_by, scalar_at, limited}
use Rattle.fzn_reader.specs.Lists.{has_room, ends_list, one_element, elements_at}
use Rattle.fzn_reader.specs.Items.{one_set}
use Rattle.fzn_reader.specs.Constraints.{fitting_list, Counted, named_list, written_list, list_by, list_arg_at}
use Rattle.fzn_parser.specs.Laws.{Reads}
use Rattle.fzn_parser.specs.Rules.{Rule, ◌>>=◌, Stands, makes, holds, mark, word, Listed}
use Rattle.fzn_parser.specs.States.{named, number, bounds, braces, range, set_in, set, scalar, element, set_element, list}
use Rattle.fzn_parser.proofs.Lawful.{both, takes_spelled}
use Rattle.fzn_parser.proofs.BeginLaws.{Shown, shown}
use Rattle.fzn_parser.proofs.ExprLaws.{set_law, scalar_law}
use Rattle.fzn_parser.proofs.ListLaws.{kept}
use Rattle.fzn_parser.proofs.Formed.{other_kind}
use Rattle.fzn_parser.proofs.FormedBegins.{begins_kind_number, begins_truth, begins_name, begins_mark, not_true, element_some}
use Rattle.fzn_parser.proofs.Made.{Ready, Takes, IsSound, IsMade, Free, ready, ok_sound, err_sound, choice, widen, behind, next_sound, next_if, next, pass, done, tested, stood, from, mark_made}
use Rattle.fzn_parser.proofs.MadeLists.{At, marks, apart, listed_made}
use Rattle.fzn_parser.proofs.MadeExprs.{NoDots, moved, no_dots, number_first, number_behind, number_valued, number_no_mark, Found, named_found, named_takes, set_roomy, set_exact}

held : {b : Bool} {ts : List Spot} → Ready ts → b ≡ true → Takes (holds b) ts ts tt
held w h = record { made = (refl, h); whole = w.whole; shorter = omega arith }

module _ (s : Scalar) (names : Names) (ts : List Spot) (w : Ready ts) where
  named_sound : (o : Option Decl) → (is_kind kind.Word (first ts).seen && not (is_reserved (first ts).text)) ≡ true → find_name names (first ts).text ≡ o → IsSound (named (fitting_term s) names) ts (named_term s o ts)
  named_sound None h f = err_sound _
  named_sound (Some d) h f = by_fit (fitting_term s d) refl
    where
      by_fit : (o : Option Term) → fitting_term s d ≡ o → IsSound (named (fitting_term s) names) ts (value_or code.WrongArguments o ts)
      by_fit None e = err_sound _
      by_fit (Some t) e = ok_sound (t, after_first ts) (named_takes (fitting_term s) names ts t d w h f e)

  constant : is_kind kind.Number (first ts).seen ≡ true → IsMade (number >>= λ z. makes (Const z)) Free ts (◌then◌ (value_or code.OutOfRange (number_in (first ts).text) ts) constant_of)
  constant h = next w (number_valued ts w h) (λ z v. done _ v)

  truth_sound : (b : Bool) (text : List ℕ) → is_word text ts ≡ true → IsSound (holds (not (takes_numbers s)) >>= λ u. word text >>= λ v. makes (truth_term b)) ts (cond (takes_numbers s) (refuse code.WrongArguments ts) (Ok (truth_term b, after_first ts)))
  truth_sound b text h = choice (takes_numbers s) (λ e. err_sound _) (λ e. behind (held w (ap not e)) (from {Q = Free} (takes_spelled kind.Word text) w h (λ v. done _ v)).sound)

  scalar_sound : (b : Begin) → Shown b (first ts).seen (first ts).text → IsSound (scalar s names) ts (scalar_by b s names ts)
  unfolding scalar
  scalar_sound begin.Number h = choice (takes_numbers s && not (is_mark (codes "..") (after_first ts))) (λ e. widen (λ rest a p. inl p) (behind (held w (both _ _ e).0) (constant h).sound)) (λ e. err_sound _)
  scalar_sound begin.Real h = err_sound _
  scalar_sound (begin.Truth true) h = widen (λ rest a p. inr (inl p)) (truth_sound true (codes "true") h)
  scalar_sound (begin.Truth false) h = widen (λ rest a p. inr (inr (inl p))) (truth_sound false (codes "false") h)
  scalar_sound begin.Name h = widen (λ rest a p. inr (inr (inr p))) (named_sound (find_name names (first ts).text) h refl)
  scalar_sound begin.Brace h = err_sound _
  scalar_sound begin.Bracket h = err_sound _
  scalar_sound begin.Other h = err_sound _

  constant_exact : (a : Term) (rest : List Spot) → (holds (takes_numbers s) >>= λ u. number >>= λ z. makes (Const z)) ts rest a → NoDots rest → scalar_by (begins ts) s names ts ≡ Ok (a, rest)
  constant_exact a rest p n =
      let t = p.first.1 in
      let q : (number >>= λ z. makes (Const z)) ts rest a = subst (λ (us : List Spot). (number >>= λ z. makes (Const z)) us rest a) (sym p.first.0) p.second in
      let h = number_first ts q.mid q.value q.first in
      let d : is_mark (codes "..") (after_first ts) ≡ false = ap (is_mark (codes "..")) (number_behind ts q.mid q.value q.first ∙ q.second.0) ∙ n in
      rw (begins_kind_number ts h, t, d) ((constant h).exact a rest q tt)

  truth_exact : (b : Bool) (text : List ℕ) → ((us : List Spot) → is_word text us ≡ true → begins us ≡ begin.Truth b) → (a : Term) (rest : List Spot) → (holds (not (takes_numbers s)) >>= λ u. word text >>= λ v. makes (truth_term b)) ts rest a → scalar_by (begins ts) s names ts ≡ Ok (a, rest)
  truth_exact b text known a rest p =
      let t = not_true _ p.first.1 in
      let q : (word text >>= λ v. makes (truth_term b)) ts rest a = subst (λ (us : List Spot). (word text >>= λ v. makes (truth_term b)) us rest a) (sym p.first.0) p.second in
      let k = stood (takes_spelled kind.Word text) q.first in
      let e = k.behind ∙ q.second.0 in
      let f = q.second.1 in
      rw (known ts k.passes, t) cc

  named_exact : (a : Term) (rest : List Spot) → Found (fitting_term s) names ts rest a → scalar_by (begins ts) s names ts ≡ Ok (a, rest)
  named_exact a rest f = let e = f.behind in rw (begins_name ts f.passes, f.found, f.fit) cc

  pub scalar_made : IsMade (scalar s names) NoDots ts (scalar_at s names ts)
  unfolding scalar scalar_at
  scalar_made = record {
    sound = scalar_sound (begins ts) (shown ts);
    exact = λ a rest p n. elim p [
      | inl p ↦ constant_exact a rest p n
      | inr p ↦ elim p [
        | inl p ↦ truth_exact true (codes "true") (λ us h. begins_truth us true (codes "true") refl h) a rest p
        | inr p ↦ elim p [
          | inl p ↦ truth_exact false (codes "false") (λ us h. begins_truth us false (codes "false") refl h) a rest p
          | inr p ↦ named_exact a rest (named_found (fitting_term s) names ts rest a p)
        ]
      ]
    ];
  }

-- what is too many is refused
too_many : {A B : Type 0} {X : Rule B} {ts : List Spot} (us : List Spot) (read : Result A Refused) (f : A → Result (B × List Spot) Refused) → IsSound X ts (◌then◌ (◌then◌ read (λ x. refuse {A = A} code.TooMany us)) f)
too_many us (Ok x) f = err_sound _
too_many us (Err r) f = err_sound r

-- any refusal
abbrev some_refusal : Refused
some_refusal = record { code = code.TooMany; line = 0; from = 0; to = 0 }

-- an element that is read, and the elements before it
unfoldable pub element_at : ℕ → Scalar → Names → List Term → List Spot → Result (List Term × List Spot) Refused
element_at used s names before ts = ◌then◌ (limited (has_room (used + length before)) ts (scalar_at s names ts)) (λ t. Ok (before ++ t.0 ∷ [], t.1))

element_by : (room : Bool) (before : List Term) (s : Scalar) (names : Names) (ts : List Spot) → Ready ts → IsMade (scalar s names >>= λ t. holds room >>= λ u. makes (before ++ t ∷ [])) NoDots ts (◌then◌ (limited room ts (scalar_at s names ts)) (λ t. Ok (before ++ t.0 ∷ [], t.1)))
element_by true before s names ts w = next_if w (scalar_made s names ts w) (λ a mid rest b p q. subst NoDots (sym (p.first.0 ∙ p.second.0)) q) (λ t v. tested some_refusal true v (λ h. done _ v))
element_by false before s names ts w = record { sound = too_many ts (scalar_at s names ts) (λ t. Ok (before ++ t.0 ∷ [], t.1)); exact = λ a rest p n. (let e = p.second.first.1 in absurd (cc)) }

element_made : (used : ℕ) (s : Scalar) (names : Names) (before : List Term) (ts : List Spot) → Ready ts → IsMade (element used s names before) NoDots ts (element_at used s names before ts)
unfolding element element_at
element_made used s names before ts w = element_by (has_room (used + length before)) before s names ts w

-- what the grammar spells leaves less
pub reads_less : {X : List Spot → Type 0} {ts rest : List Spot} → ((us : List Spot) → X us → 0 < length us) → Reads X ts rest → length rest < length ts
reads_less {ts = ts} {rest = rest} some r = let n : length ts ≡ length r.front + length rest = ap length r.joined ∙ length-append r.front rest in let k = some r.front r.spelled in omega arith

scalar_less : (s : Scalar) (names : Names) (ts : List Spot) → Ready ts → (x : Term × List Spot) → scalar_at s names ts ≡ Ok x → length x.1 < length ts
scalar_less s names ts w x e = reads_less element_some ((scalar_law s names ts w.whole).reads x e)

-- what is made further, leaves no more
then_less : (before : List Term) (room : Bool) (ts : List Spot) (read : Result (Term × List Spot) Refused) → ((x : Term × List Spot) → read ≡ Ok x → length x.1 < length ts) → (x : List Term × List Spot) → ◌then◌ (limited room ts read) (λ t. Ok (before ++ t.0 ∷ [], t.1)) ≡ Ok x → length x.1 < length ts
then_less before true ts (Ok y) h x e = let f : y.1 ≡ x.1 = cc in subst (λ (us : List Spot). length us < length ts) f (h y refl)
then_less before false ts (Ok y) h x e = absurd (cc)
then_less before true ts (Err r) h x e = absurd (cc)
then_less before false ts (Err r) h x e = absurd (cc)

element_less : (used : ℕ) (s : Scalar) (names : Names) (before : List Term) (ts : List Spot) → Ready ts → (x : List Term × List Spot) → element_at used s names before ts ≡ Ok x → length x.1 < length ts
unfolding element_at
element_less used s names before ts w x e = then_less before (has_room (used + length before)) ts (scalar_at s names ts) (scalar_less s names ts w) x e

word_no_mark : (text w : List ℕ) (us vs : List Spot) → Stands (is_spelled kind.Word w) us vs → is_mark text us ≡ false
word_no_mark text w us vs q = other_kind kind.Word kind.Mark text (first us) refl (both _ _ (stood (takes_spelled kind.Word w) q).passes).0

name_no_mark : (text : List ℕ) (us : List Spot) → (is_kind kind.Word (first us).seen && not (is_reserved (first us).text)) ≡ true → is_mark text us ≡ false
name_no_mark text us h = other_kind kind.Word kind.Mark text (first us) refl (both _ _ h).0

-- what begins an int or a bool is no mark
pub scalar_no_mark : (text : List ℕ) (s : Scalar) (names : Names) (ts rest : List Spot) (a : Term) → scalar s names ts rest a → is_mark text ts ≡ false
unfolding scalar
scalar_no_mark text s names ts rest a p = elim p [
  | inl p ↦ ap (is_mark text) p.first.0 ∙ number_no_mark text p.mid p.second.mid p.second.value p.second.first
  | inr p ↦ elim p [
    | inl p ↦ ap (is_mark text) p.first.0 ∙ word_no_mark text (codes "true") p.mid p.second.mid p.second.first
    | inr p ↦ elim p [
      | inl p ↦ ap (is_mark text) p.first.0 ∙ word_no_mark text (codes "false") p.mid p.second.mid p.second.first
      | inr p ↦ name_no_mark text ts (named_found (fitting_term s) names ts rest a p).passes
    ]
  ]
]

-- what was read and what is read behind it, in another order
regrouped : {A S : Type 0} (g : A → S) (read : Result (A × List Spot) Refused) → ◌then◌ read (λ e. ◌then◌ (separator_at (codes "]") e.1) (kept (g e.0))) ≡ ◌then◌ (◌then◌ read (moved g)) (λ x. ◌then◌ (separator_at (codes "]") x.1) (kept x.0))
regrouped g (Ok x) = refl
regrouped g (Err r) = refl

element_steps : (used : ℕ) (s : Scalar) (names : Names) (before : List Term) (ts : List Spot) → one_element used s names before ts ≡ ◌then◌ (element_at used s names before ts) (λ x. ◌then◌ (separator_at (codes "]") x.1) (kept x.0))
unfolding one_element element_at
element_steps used s names before ts = regrouped (λ t. before ++ t ∷ []) (limited (has_room (used + length before)) ts (scalar_at s names ts))

element_no_mark : (used : ℕ) (s : Scalar) (names : Names) (before after : List Term) (ts mid : List Spot) → element used s names before ts mid after → is_mark (codes "]") ts ≡ false
unfolding element
element_no_mark used s names before after ts mid p = scalar_no_mark (codes "]") s names ts p.mid p.value p.first

-- ints or bools, up to the "]"
pub elements_made : (used : ℕ) (s : Scalar) (names : Names) (ts : List Spot) → Ready ts → IsMade (Listed (element used s names) []) (At (codes "]")) ts (elements_at used s names ts)
unfolding elements_at
elements_made used s names ts w = listed_made NoDots (element_at used s names) (one_element used s names) (element_steps used s names) (element_made used s names) (element_less used s names) (element_no_mark used s names) (no_dots (codes "]") refl) (no_dots (codes ",") refl) [] ts w

-- a set that is read, and how many stood before it
unfoldable pub set_element_at : ℕ → Names → ℕ → List Spot → Result (ℕ × List Spot) Refused
set_element_at used names count ts = ◌then◌ (set_at (has_room (used + count)) names ts) (λ set. Ok (count + 1, set.1))

set_element_steps : (used : ℕ) (names : Names) (count : ℕ) (ts : List Spot) → one_set used names count ts ≡ ◌then◌ (set_element_at used names count ts) (λ x. ◌then◌ (separator_at (codes "]") x.1) (kept x.0))
unfolding one_set set_element_at
set_element_steps used names count ts = regrouped (λ set. count + 1) (set_at (has_room (used + count)) names ts)

set_element_by : (room : Bool) (count : ℕ) (names : Names) (ts : List Spot) → Ready ts → IsMade (set names >>= λ runs. holds room >>= λ u. makes (count + 1)) Free ts (◌then◌ (set_at room names ts) (λ set. Ok (count + 1, set.1)))
set_element_by room count names ts w = record {
  sound = widen (λ rest a p. record { mid = p.mid; value = p.value; first = p.first.0; second = record { mid = p.mid; value = tt; first = (refl, p.first.1); second = p.second } })
      (next_sound {Y = λ x. makes (count + 1)} (set_at room names ts) (set_roomy names ts w room) (λ x t. (done {Q = Free} (count + 1) (ready w t)).sound));
  exact = λ a rest p n. (
      let r = p.second.first.1 in
      let e = set_exact names ts w p.value p.mid p.first in
      let f = p.second.first.0 ∙ p.second.second.0 in
      let g = p.second.second.1 in
      rw (r, e) cc);
}

set_element_made : (used : ℕ) (names : Names) (count : ℕ) (ts : List Spot) → Ready ts → IsMade (set_element used names count) Free ts (set_element_at used names count ts)
unfolding set_element set_element_at
set_element_made used names count ts w = set_element_by (has_room (used + count)) count names ts w

set_less : (count : ℕ) (ts : List Spot) (read : Result (List (ℤ × ℤ) × List Spot) Refused) → ((x : List (ℤ × ℤ) × List Spot) → read ≡ Ok x → length x.1 < length ts) → (x : ℕ × List Spot) → ◌then◌ read (λ set. Ok (count + 1, set.1)) ≡ Ok x → length x.1 < length ts
set_less count ts (Ok y) h x e = let f : y.1 ≡ x.1 = cc in subst (λ (us : List Spot). length us < length ts) f (h y refl)
set_less count ts (Err r) h x e = absurd (cc)

set_element_less : (used : ℕ) (names : Names) (count : ℕ) (ts : List Spot) → Ready ts → (x : ℕ × List Spot) → set_element_at used names count ts ≡ Ok x → length x.1 < length ts
unfolding set_element_at
set_element_less used names count ts w x e = set_less count ts (set_at (has_room (used + count)) names ts) (λ y f. reads_less element_some ((set_law (has_room (used + count)) names ts w.whole).reads y f)) x e

pub set_no_mark : (text : List ℕ) → bytes_eq (codes "{") text ≡ false → (names : Names) (ts rest : List Spot) (a : List (ℤ × ℤ)) → set names ts rest a → is_mark text ts ≡ false
unfolding set range bounds braces
set_no_mark text n names ts rest a p = elim p [
  | inl p ↦ number_no_mark text ts p.first.mid p.first.value p.first.first
  | inr p ↦ elim p [
    | inl p ↦ apart (codes "{") text ts n (marks p.first)
    | inr p ↦ name_no_mark text ts (named_found set_in names ts rest a p).passes
  ]
]

set_element_no_mark : (used : ℕ) (names : Names) (count more : ℕ) (ts mid : List Spot) → set_element used names count ts mid more → is_mark (codes "]") ts ≡ false
unfolding set_element
set_element_no_mark used names count more ts mid p = set_no_mark (codes "]") refl names ts p.mid p.value p.first

-- sets, up to the "]"
pub sets_made : (used : ℕ) (names : Names) (ts : List Spot) → Ready ts → IsMade (Listed (set_element used names) 0) (At (codes "]")) ts (repeat ends_list (one_set used names) most 0 ts)
sets_made used names ts w = listed_made Free (set_element_at used names) (one_set used names) (set_element_steps used names) (set_element_made used names) (set_element_less used names) (set_element_no_mark used names) (λ rest h. tt) (λ rest h. tt) 0 ts w

module _ (s : Scalar) (names : Names) (used : ℕ) (ts : List Spot) (w : Ready ts) where
  written_made : At (codes "[") ts → IsMade (mark (codes "[") >>= λ u. Listed (element used s names) [] >>= λ terms. mark (codes "]") >>= λ v. makes (terms, used + length terms)) Free ts (written_list s names used ts)
  unfolding written_list
  written_made h = from (takes_spelled kind.Mark (codes "[")) w h (λ v. next_if v (elements_made used s names _ v) (λ a mid rest b p q. marks p.first) (λ e v. pass v (mark_made _ e.1 v) (λ close v. done _ v)))

  named_list_sound : (o : Option Decl) → (is_kind kind.Word (first ts).seen && not (is_reserved (first ts).text)) ≡ true → find_name names (first ts).text ≡ o → IsSound (named (fitting_list s) names >>= λ terms. makes {A = Counted} (terms, used)) ts (named_list s o used ts)
  named_list_sound None h f = err_sound _
  named_list_sound (Some d) h f = by_fit (fitting_list s d) refl
    where
      by_fit : (o : Option (List Term)) → fitting_list s d ≡ o → IsSound (named (fitting_list s) names >>= λ terms. makes {A = Counted} (terms, used)) ts (value_or code.WrongArguments (option_map (λ terms. (terms, used)) o) ts)
      by_fit None e = err_sound _
      by_fit (Some terms) e = let t = named_takes (fitting_list s) names ts terms d w h f e in behind t (done {Q = Free} (terms, used) (ready w t)).sound

  list_sound : (b : Begin) → Shown b (first ts).seen (first ts).text → IsSound (list s names used) ts (list_by b s names used ts)
  unfolding list
  list_sound begin.Bracket h = widen (λ rest a p. inl p) (written_made h).sound
  list_sound begin.Name h = widen (λ rest a p. inr p) (named_list_sound (find_name names (first ts).text) h refl)
  list_sound b h = err_sound _

  named_list_exact : (a : Counted) (rest : List Spot) → (named (fitting_list s) names >>= λ terms. makes {A = Counted} (terms, used)) ts rest a → list_by (begins ts) s names used ts ≡ Ok (a, rest)
  named_list_exact a rest p = let f = named_found (fitting_list s) names ts p.mid p.value p.first in let e = f.behind ∙ p.second.0 in let g = p.second.1 in rw (begins_name ts f.passes, f.found, f.fit) cc

  pub list_made : IsMade (list s names used) Free ts (list_arg_at s names used ts)
  unfolding list list_arg_at
  list_made = record {
    sound = list_sound (begins ts) (shown ts);
    exact = λ a rest p n. elim p [
      | inl p ↦ (let h = marks p.first in rw (begins_mark ts begin.Bracket (codes "[") refl h) ((written_made h).exact a rest p tt))
      | inr p ↦ named_list_exact a rest p
    ];
  }

pub list_no_mark : (text : List ℕ) → bytes_eq (codes "[") text ≡ false → (s : Scalar) (names : Names) (used : ℕ) (ts rest : List Spot) (a : Counted) → list s names used ts rest a → is_mark text ts ≡ false
unfolding list
list_no_mark text n s names used ts rest a p = elim p [
  | inl p ↦ apart (codes "[") text ts n (marks p.first)
  | inr p ↦ name_no_mark text ts (named_found (fitting_list s) names ts p.mid p.value p.first).passes
]
