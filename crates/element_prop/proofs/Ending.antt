-- The hull of the members in the places that the index can have.
use Rattle.std.proofs.Common.{◌≡◌, ℕ, ◌+◌, ◌<◌, ◌≤◌, List, length, sym, ap, ◌∙◌, arith, subst, below_more, inl, inr}
use Rattle.std.specs.Prelude.{ℤ, pos, ◌≤ℤ◌, slice_index_or}
use Rattle.std.proofs.lemmas.Int.{ints}
use Rattle.std.proofs.lemmas.Bool.{cases_lt}
use Rattle.std.proofs.lemmas.List.{get_or_default}
use Rattle.fzn_model.specs.declared.term.Term.{Term}
use Rattle.fzn_model.specs.declared.term.Term.TheVariants as term
use Rattle.fzn_model.specs.Meaning.{val}
use Rattle.fzn_model.specs.Limits.{TermIn}
use Rattle.fzn_model.specs.Boxes.{IsBox}
use Rattle.fzn_model.specs.Bounds.{term_low, term_high, TermHas, IsFixed}
use Rattle.dom_store.specs.Strength.{IsPlace}
use Rattle.fzn_model.proofs.Terms.{val_low, val_high, val_has, has_low, low_to_high, fixed_val}
use Rattle.element_prop.specs.Between.{LiesBetween, Bounded}
use Rattle.element_prop.specs.Places.{member, IsReady, IsIndexed, IsLeastBefore, IsMostBefore, IsWithin, IsJoined}
use Rattle.element_prop.proofs.Meeting.{unhad_first, unhad_last}

-- the least value of an index that has only places is one
pub first_is_place : (box : List (List ℤ)) (i : Term) (xs : List Term) (k : ℕ) → IsBox box → TermIn (length box) i → IsIndexed box i (length xs) → pos (k + 1) ≡ term_low box i → IsPlace box i xs k
first_is_place box i xs k well_formed inside indexed e =
    let low = has_low box i well_formed inside in
    let ordered = low_to_high box i well_formed inside in
    record { inside = omega (arith, ints, e, ordered, indexed.high); has = subst (TermHas box i) (sym e) low }

-- and its greatest is no less
pub high_is_some : (box : List (List ℤ)) (i : Term) (count : ℕ) → IsBox box → TermIn (length box) i → IsIndexed box i count → pos 0 ≤ℤ term_high box i
high_is_some box i count well_formed inside indexed =
    let ordered = low_to_high box i well_formed inside in
    omega (arith, ints, ordered, indexed.low)

pub least_to_first : (box : List (List ℤ)) (i : Term) (xs : List Term) (at first : ℕ) → IsBox box → TermIn (length box) i → pos (first + 1) ≡ term_low box i → IsLeastBefore box i xs at first
unfolding IsLeastBefore
least_to_first box i xs at first well_formed inside e k h place = absurd (unhad_first box i first k well_formed inside e h place.has)

pub most_to_first : (box : List (List ℤ)) (i : Term) (xs : List Term) (at first : ℕ) → IsBox box → TermIn (length box) i → pos (first + 1) ≡ term_low box i → IsMostBefore box i xs at first
unfolding IsMostBefore
most_to_first box i xs at first well_formed inside e k h place = absurd (unhad_first box i first k well_formed inside e h place.has)

pub least_all : (box : List (List ℤ)) (i : Term) (xs : List Term) (at n end : ℕ) → IsBox box → TermIn (length box) i → pos end ≡ term_high box i → end ≤ n → IsLeastBefore box i xs at n → IsLeastBefore box i xs at (length xs)
unfolding IsLeastBefore
least_all box i xs at n end well_formed inside e far before k h place = elim (cases_lt k n) [
  | inl less ↦ before k less place
  | inr more ↦ absurd (unhad_last box i end k well_formed inside e (omega (arith, far, more)) place.has)
]

pub most_all : (box : List (List ℤ)) (i : Term) (xs : List Term) (at n end : ℕ) → IsBox box → TermIn (length box) i → pos end ≡ term_high box i → end ≤ n → IsMostBefore box i xs at n → IsMostBefore box i xs at (length xs)
unfolding IsMostBefore
most_all box i xs at n end well_formed inside e far before k h place = elim (cases_lt k n) [
  | inl less ↦ before k less place
  | inr more ↦ absurd (unhad_last box i end k well_formed inside e (omega (arith, far, more)) place.has)
]

-- a place that the index can't have
pub least_pass : (box : List (List ℤ)) (i : Term) (xs : List Term) (at n : ℕ) → IsLeastBefore box i xs at n → (TermHas box i (pos (n + 1)) → ⊥) → IsLeastBefore box i xs at (n + 1)
unfolding IsLeastBefore
least_pass box i xs at n before unhad = below_more _ _ before (λ place. absurd (unhad place.has))

pub most_pass : (box : List (List ℤ)) (i : Term) (xs : List Term) (at n : ℕ) → IsMostBefore box i xs at n → (TermHas box i (pos (n + 1)) → ⊥) → IsMostBefore box i xs at (n + 1)
unfolding IsMostBefore
most_pass box i xs at n before unhad = below_more _ _ before (λ place. absurd (unhad place.has))

-- one that it can
pub least_more : (box : List (List ℤ)) (i : Term) (xs : List Term) (at n next : ℕ) → IsLeastBefore box i xs at n → term_low box (member xs next) ≤ℤ term_low box (member xs at) → term_low box (member xs next) ≤ℤ term_low box (member xs n) → IsLeastBefore box i xs next (n + 1)
unfolding IsLeastBefore
least_more box i xs at n next before first second = below_more _ _ (λ k h place. let b = before k h place in omega (arith, ints, b, first)) (λ place. second)

pub most_more : (box : List (List ℤ)) (i : Term) (xs : List Term) (at n next : ℕ) → IsMostBefore box i xs at n → term_high box (member xs at) ≤ℤ term_high box (member xs next) → term_high box (member xs n) ≤ℤ term_high box (member xs next) → IsMostBefore box i xs next (n + 1)
unfolding IsMostBefore
most_more box i xs at n next before first second = below_more _ _ (λ k h place. let b = before k h place in omega (arith, ints, b, first)) (λ place. second)

-- the chosen term lies in the hull
pub chosen_bounded : (box : List (List ℤ)) (i : Term) (xs : List Term) (c : Term) (a b : ℕ) (low high : ℤ) → IsReady box i xs c → low ≡ term_low box (member xs a) → high ≡ term_high box (member xs b) → IsLeastBefore box i xs a (length xs) → IsMostBefore box i xs b (length xs) → Bounded box i xs c c low high
unfolding Bounded LiesBetween IsLeastBefore IsMostBefore
chosen_bounded box i xs c a b low high ready e f least most θ lies (k, h, at, same) =
    let place : IsPlace box i xs k = record { inside = h; has = subst (TermHas box i) at (val_has box i θ ready.index lies) } in
    let is : slice_index_or xs k c ≡ member xs k = get_or_default xs k c (term.Const (pos 0)) h in
    let value : val (member xs k) θ ≡ val c θ = subst (λ t. val t θ ≡ val c θ) is same in
    let inside = ready.members k (term.Const (pos 0)) h in
    let from = val_low box (member xs k) θ ready.well_formed inside lies in
    let to = val_high box (member xs k) θ ready.well_formed inside lies in
    let lower = least k h place in
    let higher = most k h place in
    (omega (arith, ints, e, value, from, lower), omega (arith, ints, f, value, to, higher))

-- where the index is fixed, the member in its place lies in the hull of the chosen term
pub member_bounded : (box : List (List ℤ)) (i : Term) (xs : List Term) (c : Term) (n : ℕ) (low high : ℤ) → IsReady box i xs c → IsFixed box i → n < length xs → pos (n + 1) ≡ term_low box i → low ≡ term_low box c → high ≡ term_high box c → Bounded box i xs c (member xs n) low high
unfolding Bounded LiesBetween
member_bounded box i xs c n low high ready fixed inside first e f θ lies (k, h, at, same) =
    let number = fixed_val box i θ ready.well_formed ready.index fixed lies in
    let here : k ≡ n = omega (arith, ints, number, at, first) in
    let is : slice_index_or xs k c ≡ member xs n = ap (λ j. slice_index_or xs j c) here ∙ get_or_default xs n c (term.Const (pos 0)) inside in
    let value : val (member xs n) θ ≡ val c θ = subst (λ t. val t θ ≡ val c θ) is same in
    let from = val_low box c θ ready.well_formed ready.chosen lies in
    let to = val_high box c θ ready.well_formed ready.chosen lies in
    (omega (arith, ints, e, value, from), omega (arith, ints, f, value, to))

pub within_from : (old new : List (List ℤ)) (i : Term) (xs : List Term) (c : Term) (a b : ℕ) (low high : ℤ) → IsPlace old i xs a → IsPlace old i xs b → low ≡ term_low old (member xs a) → high ≡ term_high old (member xs b) → low ≤ℤ term_low new c → term_high new c ≤ℤ high → new ≡ old → IsWithin old i xs c
within_from old new i xs c a b low high first last e f above below same =
    let from : low ≤ℤ term_low old c = subst (λ box. low ≤ℤ term_low box c) same above in
    let to : term_high old c ≤ℤ high = subst (λ box. term_high box c ≤ℤ high) same below in
    record { low = (a, first, omega (arith, ints, e, from)); high = (b, last, omega (arith, ints, f, to)) }

pub joined_open : (box : List (List ℤ)) (i : Term) (xs : List Term) (c : Term) → (IsFixed box i → ⊥) → IsJoined box i xs c
unfolding IsJoined
joined_open box i xs c open_ fixed k e = absurd (open_ fixed)

pub joined_from : (old new : List (List ℤ)) (i : Term) (xs : List Term) (c : Term) (n : ℕ) (low high : ℤ) → pos (n + 1) ≡ term_low old i → low ≡ term_low old c → high ≡ term_high old c → low ≤ℤ term_low new (member xs n) → term_high new (member xs n) ≤ℤ high → new ≡ old → IsJoined old i xs c
unfolding IsJoined
joined_from old new i xs c n low high first e f above below same fixed k at =
    let from : low ≤ℤ term_low old (member xs n) = subst (λ box. low ≤ℤ term_low box (member xs n)) same above in
    let to : term_high old (member xs n) ≤ℤ high = subst (λ box. term_high box (member xs n) ≤ℤ high) same below in
    let here : n ≡ k = omega (arith, ints, first, at) in
    subst (λ j. (term_low old c ≤ℤ term_low old (member xs j)) × (term_high old (member xs j) ≤ℤ term_high old c)) here (omega (arith, ints, e, from), omega (arith, ints, f, to))
