-- From the steps of a pass to what is owed.
use Rattle.std.proofs.Common.{◌≡◌, ℕ, ◌<◌, ◌≤◌, List, length, sym, subst, ◌∙◌, arith, Result, Ok, Err}
use Rattle.std.specs.Prelude.{ℤ, slice_index_or, All, Contains, IfOk}
use Rattle.std.proofs.lemmas.Int.{ints}
use Rattle.fzn_model.specs.declared.term.Term.{Term}
use Rattle.fzn_model.specs.declared.con.Con.TheVariants as con
use Rattle.fzn_model.specs.Meaning.{val, Holds, AreDistinct, AreUntaken, IsFree}
use Rattle.fzn_model.specs.Boxes.{IsBox, InBox}
use Rattle.dom_store.specs.Stores.{Stored}
use Rattle.fzn_model.specs.Bounds.{term_low, term_high, IsFixed}
use Rattle.dom_store.specs.Strength.{is_inside, free_count, IsHallInterval, AllDiffIsStrong, IsChecked, IsOwed}
use Rattle.fzn_model.proofs.Terms.{fixed_val}
use Rattle.fzn_model.specs.Booleans.{FitsBox}
use Rattle.dom_store.specs.Passes.{Concludes}
use Rattle.dom_store.specs.declared.pass.Passed.{Passed}
use Rattle.dom_store.specs.declared.pass.Passed.TheVariants as passed
use Rattle.alldiff_prop.specs.Members.{IsReady}
use Rattle.dom_store.specs.Steps.{Reaches, Step, EachTo}
use Rattle.alldiff_prop.specs.Untaken.{BoundsAreFree, AreFree}
use Rattle.alldiff_prop.specs.Halls.{IsNarrowedFrom, AreNarrowed}
use Rattle.alldiff_prop.proofs.Counting.{two_pass}
use Rattle.alldiff_prop.proofs.Free.{free_single}
use Rattle.alldiff_prop.proofs.Crowding.{is_inside_from}
use Rattle.alldiff_prop.proofs.Ready.{ready_on}

pub ready_first : (box : List (List ℤ)) (xs : List Term) (taken : List ℤ) → IsBox box → FitsBox box (con.AllDiffExcept xs taken) → IsReady box xs
ready_first box xs taken well_formed fits_box = record { well_formed = well_formed; count = fits_box.kept.0.count; terms = fits_box.kept.0.terms }

-- bounds that aren't taken, and intervals that are as they are to be
strong : (box : List (List ℤ)) (xs : List Term) (taken : List ℤ) → AreFree taken xs box → AreNarrowed xs taken box → AllDiffIsStrong box xs taken
unfolding AreFree BoundsAreFree AreNarrowed IsNarrowedFrom
strong box xs taken free intervals_hold = record {
  untaken = free;
  intervals = λ i d h j e g order. intervals_hold i d h free (free i d h).0 _ order;
}

-- where all members are fixed, the constraint holds
module _ (box : List (List ℤ)) (xs : List Term) (taken : List ℤ) (ready : IsReady box xs) (is : AllDiffIsStrong box xs taken) (fixed : All (IsFixed box) xs) (θ : List ℤ) (lies : InBox box θ) where
  value : (k : ℕ) (d : Term) → k < length xs → val (slice_index_or xs k d) θ ≡ term_low box (slice_index_or xs k d)
  value k d h = fixed_val box (slice_index_or xs k d) θ ready.well_formed (ready.terms k d h) (fixed k d h) lies

  distinct : (i j : ℕ) (d : Term) → i < j → j < length xs → val (slice_index_or xs i d) θ ≡ val (slice_index_or xs j d) θ → ⊥
  distinct i j d less h same =
      let x : Term = slice_index_or xs i d in
      let y : Term = slice_index_or xs j d in
      let here : i < length xs = omega (arith, less, h) in
      let one : val x θ ≡ term_low box x = value i d here in
      let other : val y θ ≡ term_low box y = value j d h in
      let x_fixed : term_low box x ≡ term_high box x = fixed i d here in
      let y_fixed : term_low box y ≡ term_high box y = fixed j d h in
      let ends : term_low box x ≡ term_high box y = sym one ∙ same ∙ other ∙ y_fixed in
      let hall : IsHallInterval box xs taken (term_low box x) (term_high box y) = is.intervals i d here j d h (omega (arith, ints, ends)) in
      let two = two_pass (is_inside box (term_low box x) (term_high box y)) xs i j d less h
      (is_inside_from box (term_low box x) (term_high box y) x (omega (arith, ints)) (omega (arith, ints, ends, x_fixed)))
      (is_inside_from box (term_low box x) (term_high box y) y (omega (arith, ints, one, other, same)) (omega (arith, ints))) in
      let single = subst (λ z. free_count taken (term_low box x) z ≤ 1) ends (free_single taken (term_low box x)) in
      absurd (omega (arith, hall.few, two, single))

  fixed_holds : Holds (con.AllDiffExcept xs taken) θ
  unfolding AreDistinct AreUntaken IsFree
  fixed_holds = (distinct, (λ k d h. subst (λ z. Contains taken z → ⊥) (sym (value k d h)) (is.untaken k d h).0))

owed : (box : List (List ℤ)) (xs : List Term) (taken : List ℤ) → IsReady box xs → AreFree taken xs box → AreNarrowed xs taken box → IsOwed box (con.AllDiffExcept xs taken)
unfolding IsChecked
owed box xs taken ready free intervals_hold =
    let is = strong box xs taken free intervals_hold in
    record { kind = is; checked = λ fixed θ lies. fixed_holds box xs taken ready is fixed θ lies }

-- ---- a whole pass
-- where bounds were taken, some go
pub taken_concludes : (xs : List Term) (taken : List ℤ) (a b : Stored) (result : Passed) → (AreFree taken xs a.box → ⊥) → Step (EachTo (BoundsAreFree taken) xs (length xs)) (Holds (con.AllDiffExcept xs taken)) a b result → Concludes (con.AllDiffExcept xs taken) a.box b.box result
unfolding Reaches AreFree EachTo
taken_concludes xs taken a b passed.Done some step = λ same. absurd (some (subst (λ box. All (λ x. BoundsAreFree taken x box) xs) same (step.reaches same)))
taken_concludes xs taken a b passed.Empty some step = step.reaches

-- where none was, intervals are looked at
free_concludes : (xs : List Term) (taken : List ℤ) (a b : Stored) (result : Passed) → IsReady a.box xs → AreFree taken xs a.box → Step (AreNarrowed xs taken) (Holds (con.AllDiffExcept xs taken)) a b result → Concludes (con.AllDiffExcept xs taken) a.box b.box result
unfolding Reaches
free_concludes xs taken a b passed.Done ready free step = λ same.
    owed b.box xs taken (ready_on (Holds (con.AllDiffExcept xs taken)) xs a b step.prunes step.well_formed ready) (subst (AreFree taken xs) (sym same) free) (step.reaches same)
free_concludes xs taken a b passed.Empty ready free step = step.reaches

pub free_says : {E : Type 0} (xs : List Term) (taken : List ℤ) (a b : Stored) (result : Result Passed E) → IsReady a.box xs → AreFree taken xs a.box → IfOk result (Step (AreNarrowed xs taken) (Holds (con.AllDiffExcept xs taken)) a b) → IfOk result (Concludes (con.AllDiffExcept xs taken) a.box b.box)
free_says xs taken a b (Ok answer) ready free step = free_concludes xs taken a b answer ready free step
free_says xs taken a b (Err e) ready free step = tt
