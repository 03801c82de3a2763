-- What is left of an element of a list holds exactly where the constraint does, names open variables alone, and keeps
-- the limits.
use Rattle.std.proofs.Common.{◌≡◌, ℕ, zero, suc, ◌+◌, ◌<◌, List, [], ◌∷◌, length, refl, sym, ap, subst, ◌∙◌, arith, ℤ, pos, negsuc, Bool, true, false, inl, inr, ◌⊎◌}
use Rattle.std.specs.Prelude.{All, Contains, ◌↔◌, if◌then◌else◌, slice_index_or}
use Rattle.std.proofs.lemmas.Int.{ints}
use Rattle.std.proofs.lemmas.Bool.{cases_lt}
use Rattle.std.proofs.lemmas.List.{get_or_default}
use Rattle.std.proofs.lemmas.List.Elements.{All-nil, All-cons, All-head, All-tail}
use Rattle.fzn_model.specs.declared.term.Term.{Term}
use Rattle.fzn_model.specs.declared.term.Term.TheVariants as term
use Rattle.fzn_model.specs.declared.lin.Rel.TheVariants as rel
use Rattle.fzn_model.specs.declared.base.Base.TheVariants as base
use Rattle.fzn_model.specs.declared.con.Con.{Con}
use Rattle.fzn_model.specs.declared.con.Con.TheVariants as con
use Rattle.fzn_model.specs.Meaning.{val, Holds, HoldsElement}
use Rattle.fzn_model.specs.Limits.{TermIn}
use Rattle.fzn_model.specs.Boxes.{IsBox, InBox}
use Rattle.fzn_model.specs.Bounds.{term_low, is_open}
use Rattle.fzn_model.specs.Booleans.{FitsBox}
use Rattle.rest_basic.specs.Forms.{substituted, term_values, of_form, form_of_lin}
use Rattle.rest_basic.specs.Equivalence.{FormHolds, IsLeft, NamesOpen}
use Rattle.rest_basic.specs.declared.reduced.Reduced.{Reduced}
use Rattle.rest_basic.specs.declared.reduced.Reduced.TheVariants as reduced
use Rattle.rest_basic.proofs.TermsInBox.{shut_value, substituted_value, value_among}
use Rattle.rest_basic.proofs.PlainLaw.{plain_law}
use Rattle.rest_basic.proofs.OpenLaw.{open_law}
use Rattle.rest_basic.proofs.FitLaw.{suit_law}
use Rattle.rest_forms.specs.Forms.{term_has, members_from, member_form, element_form}
use Rattle.rest_forms.proofs.ValueTests.{term_has_is}
use Rattle.rest_forms.proofs.FixedIndex.{equality_kept, member_some, member_none}
use Rattle.rest_basic.proofs.Substituting.{FormIsOpen, FormIsFit, never_holds, never_open, never_fine, is_left, substituted_left, substituted_in}

-- ---- the members that the index can have
members_count : (box : List (List ℤ)) (i : Term) (n : ℕ) (xs : List Term) → length (members_from box i n xs) ≡ length xs
members_count box i n [] = refl
members_count box i n (x ∷ xs) = ap suc (members_count box i (suc n) xs)

member_is : (box : List (List ℤ)) (i : Term) (n : ℕ) (xs : List Term) (k : ℕ) (d e : Term) → k < length xs → term_has box (pos (n + k)) i ≡ true → slice_index_or (members_from box i n xs) k d ≡ substituted box (slice_index_or xs k e)
member_is box i n [] k d e h has = absurd (omega (arith, h))
member_is box i n (x ∷ xs) zero d e h has =
    let here : term_has box (pos n) i ≡ true = subst (λ m. term_has box (pos m) i ≡ true) (let z : n + zero ≡ n = omega arith in z) has in
    rw here refl
member_is box i n (x ∷ xs) (suc k) d e h has =
    member_is box i (suc n) xs k d e (omega (arith, h)) (subst (λ m. term_has box (pos m) i ≡ true) (let z : n + suc k ≡ suc n + k = omega arith in z) has)

-- the member of a place that the index has is worth the member of the list
member_value : (box : List (List ℤ)) (i c : Term) (xs : List Term) (θ : List ℤ) → IsBox box → InBox box θ → TermIn (length box) i → All (TermIn (length box)) xs → (k : ℕ) (d : Term) → k < length xs → val i θ ≡ pos (k + 1)
    → val (slice_index_or (members_from box i 1 xs) k d) θ ≡ val (slice_index_or xs k c) θ
member_value box i c xs θ well_formed lies inside each k d h is =
    let place : pos (k + 1) ≡ pos (1 + k) = omega (arith, ints) in
    let has = (term_has_is box i (pos (1 + k))).1 (subst (λ (z : ℤ). Contains (term_values box i) z) (is ∙ place) (value_among box i θ lies inside)) in
    ap (λ (t : Term). val t θ) (member_is box i 1 xs k d c h has) ∙ substituted_value box (slice_index_or xs k c) θ well_formed lies (each k c h)

open_law_of : (box : List (List ℤ)) (i c : Term) (xs : List Term) (θ : List ℤ) → IsBox box → InBox box θ → TermIn (length box) i → TermIn (length box) c → All (TermIn (length box)) xs
    → HoldsElement i (members_from box i 1 xs) (substituted box c) θ ↔ HoldsElement i xs c θ
open_law_of box i c xs θ well_formed lies inside ic each =
    let same = substituted_value box c θ well_formed lies ic in (
      (λ (k, h, is, at).
          let less : k < length xs = omega (arith, h, members_count box i 1 xs) in
          (k, less, is, sym (member_value box i c xs θ well_formed lies inside each k (substituted box c) less is) ∙ at ∙ same)),
      (λ (k, h, is, at).
          (k, omega (arith, h, members_count box i 1 xs), is, member_value box i c xs θ well_formed lies inside each k (substituted box c) h is ∙ at ∙ sym same)),
    )

-- ---- the member of a fixed index
abbrev equality : Term → Term → Con
equality x c = con.Base (base.Lin (record { rel = rel.Eq; terms = (pos 1, x) ∷ (negsuc 0, c) ∷ []; r = pos 0 }))

equality_fits : (box : List (List ℤ)) (x c : Term) → TermIn (length box) x → TermIn (length box) c → FitsBox box (equality x c)
equality_fits box x c ix ic = record { kept = record { sum = equality_kept (length box) x c ix ic; constant = omega arith }; booleans = tt }

equal_holds : (box : List (List ℤ)) (x c : Term) (θ : List ℤ) → IsBox box → InBox box θ → TermIn (length box) x → TermIn (length box) c
    → FormHolds (of_form (form_of_lin box rel.Eq ((pos 1, x) ∷ (negsuc 0, c) ∷ []) (pos 0))) θ ↔ (val x θ ≡ val c θ)
equal_holds box x c θ well_formed lies ix ic =
    let law = plain_law box (equality x c) θ well_formed lies (equality_fits box x c ix ic) tt in
    (λ h. omega (arith, ints, law.0 h), λ h. law.1 (omega (arith, ints, h)))

-- a place in the list, or none
place_or_none : (z : ℤ) (n : ℕ) → ((k : ℕ) × (k < n) × (z ≡ pos (suc k))) ⊎ ((k : ℕ) → k < n → z ≡ pos (suc k) → ⊥)
place_or_none (pos zero) n = inr (λ k h e. omega (arith, ints, e))
place_or_none (pos (suc k)) n = elim (cases_lt k n) [
  | inl less ↦ inl (k, less, refl)
  | inr past ↦ inr (λ j h is. omega (arith, ints, past, h, is))
]
place_or_none (negsuc m) n = inr (λ k h e. omega (arith, ints, e))

member_law : (box : List (List ℤ)) (i c : Term) (xs : List Term) (z : ℤ) (θ : List ℤ) → IsBox box → InBox box θ → TermIn (length box) c → All (TermIn (length box)) xs → val i θ ≡ z → FormHolds (member_form box z xs c) θ ↔ HoldsElement i xs c θ
member_law box i c xs z θ well_formed lies ic each value = elim (place_or_none z (length xs)) [
  | inl (k, h, is) ↦
      let form = member_some box z xs c (slice_index_or xs k c) k is h (get_or_default xs k c (slice_index_or xs k c) h) in
      let law = equal_holds box (slice_index_or xs k c) c θ well_formed lies (each k c h) ic in
      rw (← form) (
        (λ s. (k, h, omega (arith, ints, value, is), law.0 s)),
        (λ (j, l, at, same).
            let here : j ≡ k = omega (arith, ints, value, is, at) in
            law.1 (subst (λ m. val (slice_index_or xs m c) θ ≡ val c θ) here same)),
      )
  | inr none ↦
      rw (← member_none box z xs c none) (
        (λ s. absurd (never_holds θ s)),
        (λ (j, l, at, same). absurd (none j l (omega (arith, ints, value, at)))),
      )
]

element_by : (box : List (List ℤ)) (i c : Term) (xs : List Term) (θ : List ℤ) → IsBox box → InBox box θ → TermIn (length box) i → TermIn (length box) c → All (TermIn (length box)) xs → (o : Bool) → is_open box i ≡ o
    → FormHolds (if o then reduced.Is (con.Element i (members_from box i 1 xs) (substituted box c)) else member_form box (term_low box i) xs c) θ ↔ HoldsElement i xs c θ
element_by box i c xs θ well_formed lies inside ic each true e = open_law_of box i c xs θ well_formed lies inside ic each
element_by box i c xs θ well_formed lies inside ic each false e = member_law box i c xs (term_low box i) θ well_formed lies ic each (shut_value box i θ well_formed lies inside e)

pub element_law : (box : List (List ℤ)) (i : Term) (xs : List Term) (c : Term) (θ : List ℤ) → IsBox box → InBox box θ → TermIn (length box) i → TermIn (length box) c → All (TermIn (length box)) xs → FormHolds (element_form box i xs c) θ ↔ Holds (con.Element i xs c) θ
unfolding element_form
element_law box i xs c θ well_formed lies inside ic each = element_by box i c xs θ well_formed lies inside ic each (is_open box i) refl

-- ---- what is named
member_left : (box : List (List ℤ)) (x : Term) (t : Bool) → IsLeft box (if t then substituted box x else term.Const (pos 0))
member_left box x true = substituted_left box x
member_left box x false = tt

members_left : (box : List (List ℤ)) (i : Term) (n : ℕ) (xs : List Term) → All (IsLeft box) (members_from box i n xs)
members_left box i n [] = All-nil (IsLeft box)
members_left box i n (x ∷ xs) = All-cons (IsLeft box) (if term_has box (pos n) i then substituted box x else term.Const (pos 0)) (members_from box i (suc n) xs) (member_left box x (term_has box (pos n) i)) (members_left box i (suc n) xs)

member_names : (box : List (List ℤ)) (z : ℤ) (xs : List Term) (c : Term) → IsBox box → TermIn (length box) c → All (TermIn (length box)) xs → FormIsOpen box (member_form box z xs c)
member_names box z xs c well_formed ic each = elim (place_or_none z (length xs)) [
  | inl (k, h, is) ↦
      rw (← member_some box z xs c (slice_index_or xs k c) k is h (get_or_default xs k c (slice_index_or xs k c) h))
      record { over = open_law box (equality (slice_index_or xs k c) c) well_formed (equality_fits box (slice_index_or xs k c) c (each k c h) ic) tt }
  | inr none ↦ rw (← member_none box z xs c none) (never_open box)
]

element_names : (box : List (List ℤ)) (i c : Term) (xs : List Term) → IsBox box → TermIn (length box) c → All (TermIn (length box)) xs → (o : Bool) → is_open box i ≡ o
    → FormIsOpen box (if o then reduced.Is (con.Element i (members_from box i 1 xs) (substituted box c)) else member_form box (term_low box i) xs c)
element_names box i c xs well_formed ic each true e = record {
  over = All-cons (IsLeft box) i (substituted box c ∷ members_from box i 1 xs) (is_left box i e) (All-cons (IsLeft box) (substituted box c) (members_from box i 1 xs) (substituted_left box c) (members_left box i 1 xs));
}
element_names box i c xs well_formed ic each false e = member_names box (term_low box i) xs c well_formed ic each

pub element_open : (box : List (List ℤ)) (i : Term) (xs : List Term) (c : Term) → IsBox box → TermIn (length box) c → All (TermIn (length box)) xs → NamesOpen box (element_form box i xs c)
unfolding element_form
element_open box i xs c well_formed ic each = (element_names box i c xs well_formed ic each (is_open box i) refl).over

-- ---- what is kept
member_in : (box : List (List ℤ)) (x : Term) (t : Bool) → IsBox box → TermIn (length box) x → TermIn (length box) (if t then substituted box x else term.Const (pos 0))
member_in box x true well_formed inside = substituted_in box x well_formed inside
member_in box x false well_formed inside = omega arith

members_in : (box : List (List ℤ)) (i : Term) (n : ℕ) (xs : List Term) → IsBox box → All (TermIn (length box)) xs → All (TermIn (length box)) (members_from box i n xs)
members_in box i n [] well_formed each = All-nil (TermIn (length box))
members_in box i n (x ∷ xs) well_formed each =
    All-cons (TermIn (length box)) (if term_has box (pos n) i then substituted box x else term.Const (pos 0)) (members_from box i (suc n) xs)
    (member_in box x (term_has box (pos n) i) well_formed (All-head (TermIn (length box)) x xs each)) (members_in box i (suc n) xs well_formed (All-tail (TermIn (length box)) x xs each))

member_fine : (box : List (List ℤ)) (z : ℤ) (xs : List Term) (c : Term) → IsBox box → TermIn (length box) c → All (TermIn (length box)) xs → FormIsFit box (member_form box z xs c)
member_fine box z xs c well_formed ic each = elim (place_or_none z (length xs)) [
  | inl (k, h, is) ↦
      rw (← member_some box z xs c (slice_index_or xs k c) k is h (get_or_default xs k c (slice_index_or xs k c) h))
      (equal_fine (slice_index_or xs k c) (each k c h) (of_form (form_of_lin box rel.Eq ((pos 1, slice_index_or xs k c) ∷ (negsuc 0, c) ∷ []) (pos 0))) refl)
  | inr none ↦ rw (← member_none box z xs c none) (never_fine box)
]
  where
    equal_fine : (x : Term) → TermIn (length box) x → (form : Reduced) → of_form (form_of_lin box rel.Eq ((pos 1, x) ∷ (negsuc 0, c) ∷ []) (pos 0)) ≡ form → FormIsFit box form
    equal_fine x ix reduced.Holds is = record { fine = tt }
    equal_fine x ix (reduced.Is d) is = record { fine = suit_law box (equality x c) d well_formed (equality_fits box x c ix ic) tt is }

element_fine : (box : List (List ℤ)) (i : Term) (xs : List Term) (c : Term) → IsBox box → FitsBox box (con.Element i xs c) → (o : Bool) → is_open box i ≡ o
    → FormIsFit box (if o then reduced.Is (con.Element i (members_from box i 1 xs) (substituted box c)) else member_form box (term_low box i) xs c)
element_fine box i xs c well_formed fits_box true e = record {
  fine = record {
    kept = (
      fits_box.kept.0,
      record { count = omega (arith, members_count box i 1 xs, fits_box.kept.1.count); terms = members_in box i 1 xs well_formed fits_box.kept.1.terms },
      substituted_in box c well_formed fits_box.kept.2,
    );
    booleans = tt;
  };
}
element_fine box i xs c well_formed fits_box false e = member_fine box (term_low box i) xs c well_formed fits_box.kept.2 fits_box.kept.1.terms

pub element_suits : (box : List (List ℤ)) (i : Term) (xs : List Term) (c : Term) (d : Con) → IsBox box → FitsBox box (con.Element i xs c) → element_form box i xs c ≡ reduced.Is d → FitsBox box d
unfolding element_form
element_suits box i xs c d well_formed fits_box is = (subst (λ (f : Reduced). FormIsFit box f) is (element_fine box i xs c well_formed fits_box (is_open box i) refl)).fine
