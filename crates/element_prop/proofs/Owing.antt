-- From the steps of a pass to what is owed.
use Rattle.std.proofs.Common.{◌≡◌, ℕ, zero, suc, ◌+◌, ◌<◌, List, length, refl, sym, ◌∙◌, arith, subst, inl}
use Rattle.std.specs.Prelude.{ℤ, pos, negsuc, ◌≤ℤ◌, slice_index_or}
use Rattle.std.proofs.lemmas.Int.{ints}
use Rattle.std.proofs.lemmas.List.{get_or_default}
use Rattle.fzn_model.specs.declared.term.Term.{Term}
use Rattle.fzn_model.specs.declared.term.Term.TheVariants as term
use Rattle.fzn_model.specs.declared.con.Con.TheVariants as con
use Rattle.fzn_model.specs.Meaning.{Holds}
use Rattle.dom_store.specs.Stores.{Stored}
use Rattle.dom_store.specs.Narrowing.{HasNone, Prunes}
use Rattle.fzn_model.specs.Bounds.{term_low, term_high, IsFixed, IsLookedAt}
use Rattle.dom_store.specs.Strength.{HullsMeet, ElementIsStrong, IsChecked, IsOwed}
use Rattle.fzn_model.proofs.Terms.{has_low, has_between, fixed_val}
use Rattle.dom_store.proofs.Laws.{prunes_still}
use Rattle.dom_store.specs.Passes.{Concludes}
use Rattle.dom_store.specs.declared.pass.Passed.{Passed}
use Rattle.dom_store.specs.declared.pass.Passed.TheVariants as passed
use Rattle.element_prop.specs.Places.{IsReady, IsIndexed, IsImpossible, MeetsAt, MeetsBefore, IsWithin}
use Rattle.element_prop.proofs.Passing.{none_at_first}

-- a number of a list's places is one more than a place
place_at : (v : ℤ) (count : ℕ) → pos 1 ≤ℤ v → v ≤ℤ pos count → (k : ℕ) × (v ≡ pos (k + 1)) × (k < count)
place_at (pos zero) count low high = absurd (omega (arith, ints, low))
place_at (pos (suc n)) count low high = (n, omega (arith, ints), omega (arith, ints, high))
place_at (negsuc n) count low high = absurd (omega (arith, ints, low))

meets_at : (box : List (List ℤ)) (i : Term) (xs : List Term) (c : Term) (k : ℕ) → MeetsBefore box i xs c (length xs) → k < length xs → IsLookedAt box i (pos (k + 1)) → HullsMeet box (slice_index_or xs k c) c
unfolding MeetsBefore MeetsAt
meets_at box i xs c k meets h at = subst (λ t. HullsMeet box t c) (get_or_default xs k (term.Const (pos 0)) c h) (meets k h at)

index_meets : (box : List (List ℤ)) (i : Term) (xs : List Term) (c : Term) → IsReady box i xs c → IsIndexed box i (length xs) → MeetsBefore box i xs c (length xs) → (v : ℤ) → IsLookedAt box i v → (k : ℕ) × (v ≡ pos (k + 1)) × (k < length xs) × HullsMeet box (slice_index_or xs k c) c
index_meets box i xs c ready indexed meets v at =
    let between = has_between box i v ready.well_formed ready.index at.has in
    let place = place_at v (length xs) (omega (arith, ints, between.0, indexed.low)) (omega (arith, ints, between.1, indexed.high)) in
    (place.0, place.1, place.2, meets_at box i xs c place.0 meets place.2 (subst (IsLookedAt box i) place.1 at))

pub element_strong : (box : List (List ℤ)) (i : Term) (xs : List Term) (c : Term) → IsReady box i xs c → IsIndexed box i (length xs) → MeetsBefore box i xs c (length xs) → IsWithin box i xs c → ElementIsStrong box i xs c
element_strong box i xs c ready indexed meets within =
    let low = within.low in
    let high = within.high in
    record {
      index = index_meets box i xs c ready indexed meets;
      low = (low.0, low.1, subst (λ t. term_low box t ≤ℤ term_low box c) (get_or_default xs low.0 (term.Const (pos 0)) c low.1.inside) low.2);
      high = (high.0, high.1, subst (λ t. term_high box c ≤ℤ term_high box t) (get_or_default xs high.0 (term.Const (pos 0)) c high.1.inside) high.2);
    }

-- where all terms are fixed, the constraint holds
element_checked : (box : List (List ℤ)) (i : Term) (xs : List Term) (c : Term) → IsReady box i xs c → ElementIsStrong box i xs c → IsChecked box (con.Element i xs c)
unfolding IsChecked
element_checked box i xs c ready strong all θ lies =
    let i_fixed : IsFixed box i = all 0 i (omega arith) in
    let c_fixed : IsFixed box c = all 1 c (omega arith) in
    let looked : IsLookedAt box i (term_low box i) = record { has = has_low box i ready.well_formed ready.index; bound = λ wide. inl refl } in
    let found = strong.index (term_low box i) looked in
    let x_fixed : IsFixed box (slice_index_or xs found.0 c) = all (suc (suc found.0)) c (omega (arith, found.2)) in
    let i_value = fixed_val box i θ ready.well_formed ready.index i_fixed lies in
    let c_value = fixed_val box c θ ready.well_formed ready.chosen c_fixed lies in
    let x_value = fixed_val box (slice_index_or xs found.0 c) θ ready.well_formed (ready.members found.0 c found.2) x_fixed lies in
    let meets = found.3 in
    (found.0, found.2, i_value ∙ found.1, omega (arith, ints, c_value, x_value, meets.below, meets.above, c_fixed, x_fixed))

pub element_owed : (box : List (List ℤ)) (i : Term) (xs : List Term) (c : Term) → IsReady box i xs c → IsIndexed box i (length xs) → MeetsBefore box i xs c (length xs) → IsWithin box i xs c → IsOwed box (con.Element i xs c)
element_owed box i xs c ready indexed meets within =
    let strong = element_strong box i xs c ready indexed meets within in
    record { kind = strong; checked = element_checked box i xs c ready strong }

pub impossible_none : (box : List (List ℤ)) (i : Term) (xs : List Term) (c : Term) → IsImpossible box i xs c → HasNone (Holds (con.Element i xs c)) box
unfolding IsImpossible
impossible_none box i xs c none = none

-- a whole pass
pub element_concludes : (i : Term) (xs : List Term) (c : Term) (old mid new : Stored) (answer : Passed) → Prunes (Holds (con.Element i xs c)) old mid → Prunes (Holds (con.Element i xs c)) mid new → IsReady mid.box i xs c → IsIndexed mid.box i (length xs)
    → (answer ≡ passed.Done → new.box ≡ mid.box → MeetsBefore mid.box i xs c (length xs)) → (answer ≡ passed.Done → new.box ≡ mid.box → IsWithin mid.box i xs c) → (answer ≡ passed.Empty → IsImpossible mid.box i xs c) → Concludes (con.Element i xs c) old.box new.box answer
element_concludes i xs c old mid new passed.Done first second ready indexed meets within none = λ e.
    let same : mid.box ≡ old.box = prunes_still (Holds (con.Element i xs c)) (Holds (con.Element i xs c)) old mid new first second e in
    let again : new.box ≡ mid.box = e ∙ sym same in
    subst (λ box. IsOwed box (con.Element i xs c)) (sym again) (element_owed mid.box i xs c ready indexed (meets refl again) (within refl again))
element_concludes i xs c old mid new passed.Empty first second ready indexed meets within none =
    impossible_none old.box i xs c (none_at_first i xs c old mid first (none refl))
