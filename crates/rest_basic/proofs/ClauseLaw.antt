-- The form of a clause holds exactly where the clause does.
use Rattle.std.proofs.Common.{◌≡◌, List, [], ◌∷◌, length, refl, ap, arith, ℤ, pos, Bool, true, false, sym, ◌∙◌, inl, inr, ◌⊎◌, suc, zero}
use Rattle.std.specs.Prelude.{All, filter, ◌↔◌, ◌||◌, ◌&&◌, if◌then◌else◌}
use Rattle.std.specs.Ordering.{int_eq}
use Rattle.std.specs.List.{list_any}
use Rattle.std.proofs.lemmas.Int.{ints}
use Rattle.std.proofs.lemmas.Bool.{false≢true}
use Rattle.std.proofs.lemmas.List.Elements.{All-head, All-tail}
use Rattle.std.proofs.lemmas.Bool.Decides.{Decides-int_eq}
use Rattle.fzn_model.specs.declared.term.Term.{Term}
use Rattle.fzn_model.specs.declared.base.Base.TheVariants as base
use Rattle.fzn_model.specs.Meaning.{val, HasValue}
use Rattle.fzn_model.specs.Limits.{TermIn}
use Rattle.fzn_model.specs.Boxes.{IsBox, InBox}
use Rattle.fzn_model.specs.Bounds.{term_low, term_high, is_open}
use Rattle.fzn_model.proofs.Terms.{val_low, val_high}
use Rattle.rest_basic.specs.Forms.{is_at, any_at, any_open, open_terms, form_of_clause}
use Rattle.rest_basic.specs.declared.reduced.BaseForm.TheVariants as form
use Rattle.rest_basic.proofs.LinLaw.{BaseFormHolds}

pub has_none : (z : ℤ) (θ : List ℤ) → HasValue [] z θ → ⊥
unfolding HasValue
has_none z θ (k, t, below, is, same) = omega (arith, below)

has_here : (t : Term) (ts : List Term) (z : ℤ) (θ : List ℤ) → val t θ ≡ z → HasValue (t ∷ ts) z θ
unfolding HasValue
has_here t ts z θ e = (zero, t, omega arith, refl, e)

has_later : (t : Term) (ts : List Term) (z : ℤ) (θ : List ℤ) → HasValue ts z θ → HasValue (t ∷ ts) z θ
unfolding HasValue
has_later t ts z θ (k, x, below, is, same) = (suc k, x, omega (arith, below), is, same)

has_cases : (t : Term) (ts : List Term) (z : ℤ) (θ : List ℤ) → HasValue (t ∷ ts) z θ → (val t θ ≡ z) ⊎ HasValue ts z θ
unfolding HasValue
has_cases t ts z θ (zero, x, below, is, same) = inl (ap (λ (u : Term). val u θ) is ∙ same)
has_cases t ts z θ (suc k, x, below, is, same) = inr (k, x, omega (arith, below), is, same)

and_both : (a b : Bool) → (a && b) ≡ true → (a ≡ true) × (b ≡ true)
and_both true b e = (refl, e)
and_both false b e = (cc)

or_none : (a b : Bool) → (a || b) ≡ false → (a ≡ false) × (b ≡ false)
or_none true b e = (cc)
or_none false b e = (refl, e)

-- a term with this one value has it
is_at_value : (box : List (List ℤ)) (t : Term) (z : ℤ) (θ : List ℤ) → IsBox box → InBox box θ → TermIn (length box) t → is_at box z t ≡ true → val t θ ≡ z
unfolding is_at
is_at_value box t z θ well_formed lies inside e =
    let low = val_low box t θ well_formed inside lies in
    let high = val_high box t θ well_formed inside lies in
    let both = and_both (int_eq (term_low box t) z) (int_eq (term_high box t) z) e in
    let first = (Decides-int_eq (term_low box t) z).0 both.0 in
    let last = (Decides-int_eq (term_high box t) z).0 both.1 in
    omega (arith, ints, low, high, first, last)

-- one that isn't so, and isn't open, has another
not_at_value : (box : List (List ℤ)) (t : Term) (z : ℤ) (θ : List ℤ) → IsBox box → InBox box θ → TermIn (length box) t → is_at box z t ≡ false → is_open box t ≡ false → val t θ ≡ z → ⊥
unfolding is_at
not_at_value box t z θ well_formed lies inside e shut same =
    let low = val_low box t θ well_formed inside lies in
    let high = val_high box t θ well_formed inside lies in
    let first : term_low box t ≡ z = omega (arith, ints, low, high, shut, same) in
    let last : term_high box t ≡ z = omega (arith, ints, low, high, shut, same) in
    let one = (Decides-int_eq (term_low box t) z).1 first in
    let two = (Decides-int_eq (term_high box t) z).1 last in
    false≢true (sym e ∙ rw (one, two) refl)

either_same : {P Q R S : Type 0} → (P ↔ Q) → (R ↔ S) → (P ⊎ R) ↔ (Q ⊎ S)
either_same x y = (λ h. elim h [ inl p ↦ inl (x.0 p) | inr p ↦ inr (y.0 p) ], λ h. elim h [ inl p ↦ inl (x.1 p) | inr p ↦ inr (y.1 p) ])

any_step : (box : List (List ℤ)) (z : ℤ) (t : Term) (ts : List Term) (θ : List ℤ) → (is_at box z t ≡ true → val t θ ≡ z) → (list_any (is_at box z) ts ≡ true → HasValue ts z θ)
    → (o : Bool) → is_at box z t ≡ o → (o || list_any (is_at box z) ts) ≡ true → HasValue (t ∷ ts) z θ
any_step box z t ts θ here rest true e h = has_here t ts z θ (here e)
any_step box z t ts θ here rest false e h = has_later t ts z θ (rest h)

open_step : (box : List (List ℤ)) (z : ℤ) (t : Term) (ts : List Term) (θ : List ℤ) → (HasValue (filter (is_open box) ts) z θ ↔ HasValue ts z θ)
    → (o : Bool) → is_open box t ≡ o → (o ≡ false → val t θ ≡ z → ⊥) → HasValue (filter (is_open box) (t ∷ ts)) z θ ↔ HasValue (t ∷ ts) z θ
open_step box z t ts θ rest true e differs =
    rw e (
      λ h. elim (has_cases t (filter (is_open box) ts) z θ h) [ inl p ↦ has_here t ts z θ p | inr p ↦ has_later t ts z θ (rest.0 p) ],
      λ h. elim (has_cases t ts z θ h) [ inl p ↦ has_here t (filter (is_open box) ts) z θ p | inr p ↦ has_later t (filter (is_open box) ts) z θ (rest.1 p) ],
    )
open_step box z t ts θ rest false e differs =
    rw e (
      λ h. has_later t ts z θ (rest.0 h),
      λ h. elim (has_cases t ts z θ h) [ inl p ↦ absurd (differs refl p) | inr p ↦ rest.1 p ],
    )

any_at_has : (box : List (List ℤ)) (z : ℤ) (ts : List Term) (θ : List ℤ) → IsBox box → InBox box θ → All (TermIn (length box)) ts → any_at box z ts ≡ true → HasValue ts z θ
unfolding any_at
any_at_has box z [] θ well_formed lies kept e = (cc)
any_at_has box z (t ∷ ts) θ well_formed lies kept e =
    let rest = any_at_has box z ts θ well_formed lies (All-tail (TermIn (length box)) t ts kept) in
    let here = is_at_value box t z θ well_formed lies (All-head (TermIn (length box)) t ts kept) in
    any_step box z t ts θ here rest (is_at box z t) refl e

-- with no term fixed at the value, only the open ones can have it
open_has : (box : List (List ℤ)) (z : ℤ) (ts : List Term) (θ : List ℤ) → IsBox box → InBox box θ → All (TermIn (length box)) ts → any_at box z ts ≡ false → HasValue (open_terms box ts) z θ ↔ HasValue ts z θ
unfolding any_at open_terms
open_has box z [] θ well_formed lies kept e = (λ h. h, λ h. h)
open_has box z (t ∷ ts) θ well_formed lies kept e =
    let none = or_none (is_at box z t) (list_any (is_at box z) ts) e in
    let rest = open_has box z ts θ well_formed lies (All-tail (TermIn (length box)) t ts kept) none.1 in
    open_step box z t ts θ rest (is_open box t) refl (not_at_value box t z θ well_formed lies (All-head (TermIn (length box)) t ts kept) none.0)

-- where none is open, there are no open terms
none_open : (box : List (List ℤ)) (z : ℤ) (ts : List Term) (θ : List ℤ) → any_open box ts ≡ false → HasValue (open_terms box ts) z θ → ⊥
unfolding any_open open_terms
none_open box z [] θ e h = has_none z θ h
none_open box z (t ∷ ts) θ e h =
    let none = or_none (is_open box t) (list_any (is_open box) ts) e in
    let here : is_open box t ≡ false = none.0 in
    none_open box z ts θ none.1 (rw here at h)

clause_cases : (box : List (List ℤ)) (ps ns : List Term) (θ : List ℤ) → IsBox box → InBox box θ → All (TermIn (length box)) ps → All (TermIn (length box)) ns
    → (p : Bool) → any_at box (pos 1) ps ≡ p → (n : Bool) → any_at box (pos 0) ns ≡ n → (q : Bool) → any_open box ps ≡ q → (m : Bool) → any_open box ns ≡ m
    → BaseFormHolds (if p || n then form.Holds else (if q || m then form.Is (base.Clause (record { pos = open_terms box ps; neg = open_terms box ns })) else form.Fails)) θ
    ↔ (HasValue ps (pos 1) θ ⊎ HasValue ns (pos 0) θ)
clause_cases box ps ns θ well_formed lies kp kn true e n f q g m h = (λ _. inl (any_at_has box (pos 1) ps θ well_formed lies kp e), λ _. tt)
clause_cases box ps ns θ well_formed lies kp kn false e true f q g m h = (λ _. inr (any_at_has box (pos 0) ns θ well_formed lies kn f), λ _. tt)
clause_cases box ps ns θ well_formed lies kp kn false e false f true g m h = either_same (open_has box (pos 1) ps θ well_formed lies kp e) (open_has box (pos 0) ns θ well_formed lies kn f)
clause_cases box ps ns θ well_formed lies kp kn false e false f false g true h = either_same (open_has box (pos 1) ps θ well_formed lies kp e) (open_has box (pos 0) ns θ well_formed lies kn f)
clause_cases box ps ns θ well_formed lies kp kn false e false f false g false h = (
  λ x. absurd x,
  λ x. elim x [
    | inl p ↦ none_open box (pos 1) ps θ g ((open_has box (pos 1) ps θ well_formed lies kp e).1 p)
    | inr p ↦ none_open box (pos 0) ns θ h ((open_has box (pos 0) ns θ well_formed lies kn f).1 p)
  ],
)

pub clause_law : (box : List (List ℤ)) (ps ns : List Term) (θ : List ℤ) → IsBox box → InBox box θ → All (TermIn (length box)) ps → All (TermIn (length box)) ns → BaseFormHolds (form_of_clause box ps ns) θ ↔ (HasValue ps (pos 1) θ ⊎ HasValue ns (pos 0) θ)
unfolding form_of_clause
clause_law box ps ns θ well_formed lies kp kn = clause_cases box ps ns θ well_formed lies kp kn (any_at box (pos 1) ps) refl (any_at box (pos 0) ns) refl (any_open box ps) refl (any_open box ns) refl
