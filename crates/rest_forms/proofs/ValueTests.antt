-- Which values a term has, as a test.
use Rattle.std.proofs.Common.{◌≡◌, List, [], ◌∷◌, refl, sym, subst, ◌∙◌, ℤ, Bool, true, false, inl, inr, ◌⊎◌, length}
use Rattle.std.specs.Prelude.{All, Contains, filter, not, ◌↔◌, ◌&&◌, ◌||◌, IsTrue}
use Rattle.std.specs.Ordering.{int_eq}
use Rattle.std.specs.List.{list_any, list_all}
use Rattle.std.proofs.lemmas.Bool.{false≢true}
use Rattle.std.proofs.lemmas.Bool.Decides.{Decides-int_eq}
use Rattle.std.proofs.lemmas.List.Elements.{All-nil, All-cons, All-head, All-tail, All-map, All-weaker, All-filter}
use Rattle.std.proofs.lemmas.List.Folds.{Any-from_list_any, list_any-from_Any}
use Rattle.fzn_model.specs.declared.term.Term.{Term}
use Rattle.fzn_model.specs.Limits.{IsValue, TermIn}
use Rattle.fzn_model.specs.Boxes.{IsBox}
use Rattle.fzn_model.specs.Bounds.{term_low, is_open}
use Rattle.rest_basic.specs.Forms.{term_values}
use Rattle.rest_basic.proofs.Substituting.{low_is}
use Rattle.rest_forms.specs.Forms.{term_has, fixed_values}

-- a list has the number, as a test
pub among_test : (z : ℤ) (xs : List ℤ) → Contains xs z → list_any (int_eq z) xs ≡ true
among_test z xs (k, h, e) = list_any-from_Any (int_eq z) xs (k, z, h, e, (Decides-int_eq z z).1 refl)

pub test_among : (z : ℤ) (xs : List ℤ) → list_any (int_eq z) xs ≡ true → Contains xs z
test_among z xs e =
    let (k, y, h, at, same) = Any-from_list_any (int_eq z) xs e in
    subst (λ (w : ℤ). Contains xs w) (sym ((Decides-int_eq z y).0 same)) (k, h, at)

by_test : (z : ℤ) (xs : List ℤ) (b t : Bool) → list_any (int_eq z) xs ≡ t → (IsTrue b ↔ Contains xs z) → b ≡ t
by_test z xs true true e both = refl
by_test z xs true false e both = absurd (false≢true (sym e ∙ among_test z xs (both.0 refl)))
by_test z xs false true e both = absurd (false≢true (both.1 (test_among z xs e)))
by_test z xs false false e both = refl

pub has_value : (box : List (List ℤ)) (t : Term) (z : ℤ) (b : Bool) → (IsTrue b ↔ Contains (term_values box t) z) → b ≡ term_has box z t
unfolding term_has
has_value box t z b both = by_test z (term_values box t) b (list_any (int_eq z) (term_values box t)) refl both

pub term_has_is : (box : List (List ℤ)) (t : Term) (z : ℤ) → (term_has box z t ≡ true) ↔ Contains (term_values box t) z
unfolding term_has
term_has_is box t z = (test_among z (term_values box t), among_test z (term_values box t))

-- ---- tests joined
pub and_both : (a b : Bool) → ((a && b) ≡ true) ↔ ((a ≡ true) × (b ≡ true))
and_both true b = (λ e. (refl, e), λ h. h.1)
and_both false b = (λ e. absurd (false≢true e), λ h. h.0)

pub or_either : (a b : Bool) → ((a || b) ≡ true) ↔ ((a ≡ true) ⊎ (b ≡ true))
or_either true b = (λ e. inl refl, λ h. refl)
or_either false b = (λ e. inr e, λ h. elim h [ inl e ↦ absurd (false≢true e) | inr e ↦ e ])

pub all_test : {X : Type 0} (p : X → Bool) (P : X → Type 0) → ((x : X) → (p x ≡ true) ↔ P x) → (xs : List X) → (list_all p xs ≡ true) ↔ All P xs
all_test p P decides [] = (λ e. All-nil P, λ h. refl)
all_test p P decides (x ∷ xs) =
    let both = and_both (p x) (list_all p xs) in
    let rest = all_test p P decides xs in (
      (λ e. let parts = both.0 e in All-cons P x xs ((decides x).0 parts.0) (rest.0 parts.1)),
      (λ h. both.1 ((decides x).1 (All-head P x xs h), rest.1 (All-tail P x xs h))),
    )

pub alike : (a b : Bool) → (a ≡ true → b ≡ true) → (b ≡ true → a ≡ true) → a ≡ b
alike true b to from = sym (to refl)
alike false true to from = from refl
alike false false to from = refl

-- the values of fixed terms are values
pub fixed_within : (box : List (List ℤ)) (ts : List Term) → IsBox box → All (TermIn (length box)) ts → All IsValue (fixed_values box ts)
unfolding fixed_values
fixed_within box ts well_formed inside =
    let shut = λ (t : Term). not (is_open box t) in
    All-map IsValue (term_low box) (filter shut ts) (All-weaker (TermIn (length box)) (λ t. IsValue (term_low box t)) (λ t i. low_is box t well_formed i) (filter shut ts) (All-filter shut (TermIn (length box)) ts inside))
