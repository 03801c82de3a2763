-- From sums to linear constraints.
use Rattle.std.proofs.Common.{◌≡◌, List, length, map, ℤ, pos, neg_ℤ, ◌+ℤ◌, ◌≤ℤ◌, refl, sym, ap, ◌∙◌, arith, subst}
use Rattle.std.specs.Prelude.{All, true, false}
use Rattle.std.proofs.lemmas.Int.{ints}
use Rattle.std.proofs.lemmas.List.{length-map, get_or-map}
use Rattle.fzn_model.specs.declared.term.Term.{Term}
use Rattle.fzn_model.specs.declared.lin.Rel.TheVariants.{Le, Eq, Ne}
use Rattle.fzn_model.specs.Meaning.{lin_sum, Holds}
use Rattle.fzn_model.specs.Limits.{SumInLimits}
use Rattle.fzn_model.specs.Boxes.{IsBox, InBox}
use Rattle.fzn_model.specs.Bounds.{IsFixed, sum_low}
use Rattle.fzn_model.proofs.LinearBounds.{sum_fixed, bounds_fixed}
use Rattle.dom_store.specs.Stores.{Stored}
use Rattle.dom_store.specs.Steps.{Step, EachTo}
use Rattle.dom_store.specs.Strength.{SumIsFixed, IsChecked, IsOwed, ConIsOwed}
use Rattle.dom_store.specs.declared.pass.Passed.{Passed}
use Rattle.dom_store.specs.declared.pass.Passed.TheVariants as passed
use Rattle.dom_store.proofs.Stepping.{step_for, step_as, step_both, step_end}
use Rattle.lin_prop.specs.Signed.{signed_all}
use Rattle.lin_prop.specs.Capped.{SumIsAtMost, IsLow, RisesBoth, SumIsBoth}
use Rattle.lin_prop.specs.Different.{Differs, IsApart}
use Rattle.lin_prop.specs.Kinds.{relation}
use Rattle.lin_prop.proofs.Capping.{low_from}
use Rattle.lin_prop.proofs.Negating.{same_all, sum_negated, low_negated, raised_of}

at_most : (ts : List (ℤ × Term)) (r : ℤ) (θ : List ℤ) → lin_sum ts θ ≤ℤ r → SumIsAtMost (signed_all false ts) r θ
unfolding SumIsAtMost
at_most ts r θ h = subst (λ qs. lin_sum qs θ ≤ℤ r) (sym (same_all ts)) h

negative_at_most : (ts : List (ℤ × Term)) (r s : ℤ) (θ : List ℤ) → s ≡ neg_ℤ r → r ≤ℤ lin_sum ts θ → SumIsAtMost (signed_all true ts) s θ
unfolding SumIsAtMost
negative_at_most ts r s θ e h = let t = sum_negated ts θ in omega (arith, ints, t, e, h)

fixed_sum : (box : List (List ℤ)) (ts : List (ℤ × Term)) → All (IsFixed box) (map (λ (t : ℤ × Term). t.1) ts) → SumIsFixed box ts
unfolding SumIsFixed
fixed_sum box ts all k d h = subst (IsFixed box) (get_or-map (λ (t : ℤ × Term). t.1) ts k d d.1 h) (all k d.1 (omega (arith, h, length-map ts (λ (t : ℤ × Term). t.1))))

sum_is : (box : List (List ℤ)) (ts : List (ℤ × Term)) (θ : List ℤ) → IsBox box → SumInLimits (length box) ts → All (IsFixed box) (map (λ (t : ℤ × Term). t.1) ts) → InBox box θ → lin_sum ts θ ≡ sum_low box ts
unfolding SumIsFixed
sum_is box ts θ well_formed limits all lies = sum_fixed box ts θ well_formed limits.terms lies (fixed_sum box ts all)

-- ---- at most
low_at : (box : List (List ℤ)) (ts : List (ℤ × Term)) (r : ℤ) → IsLow (signed_all false ts) r box → IsLow ts r box
low_at box ts r low = subst (λ qs. IsLow qs r box) (same_all ts) low

at_most_owed : (box : List (List ℤ)) (ts : List (ℤ × Term)) (r : ℤ) → IsBox box → SumInLimits (length box) ts → IsLow ts r box → IsOwed box (relation Le ts r)
unfolding IsChecked
at_most_owed box ts r well_formed limits low = record {
  kind = low.capped;
  checked = λ all θ lies.
      let sum = sum_is box ts θ well_formed limits all lies in
      omega (arith, ints, sum, low.sum);
}

pub at_most_step : (ts : List (ℤ × Term)) (r : ℤ) (old new : Stored) (result : Passed) → SumInLimits (length old.box) ts → Step (IsLow (signed_all false ts) r) (SumIsAtMost (signed_all false ts) r) old new result → Step (ConIsOwed (relation Le ts r)) (Holds (relation Le ts r)) old new result
at_most_step ts r old new result limits step =
    step_for (IsLow (signed_all false ts) r) (ConIsOwed (relation Le ts r)) (SumIsAtMost (signed_all false ts) r) (Holds (relation Le ts r)) old new result
    (λ same low. at_most_owed new.box ts r step.well_formed (subst (λ b. SumInLimits (length b) ts) (sym same) limits) (low_at new.box ts r low))
    (λ θ lies h. at_most ts r θ h)
    step

-- ---- equal to
equal_owed : (box : List (List ℤ)) (ts : List (ℤ × Term)) (r : ℤ) → IsBox box → SumInLimits (length box) ts → IsLow ts r box → IsLow (signed_all true ts) (neg_ℤ r) box → IsOwed box (relation Eq ts r)
unfolding IsChecked SumIsFixed
equal_owed box ts r well_formed limits up down = record {
  kind = (up.capped, raised_of box ts r down.capped);
  checked = λ all θ lies.
      let sum = sum_is box ts θ well_formed limits all lies in
      let negative = low_negated box ts in
      let most = bounds_fixed box ts (fixed_sum box ts all) in
      omega (arith, ints, sum, up.sum, down.sum, negative, most);
}

equal_first : (ts : List (ℤ × Term)) (r : ℤ) (old new : Stored) (result : Passed) → Step (IsLow (signed_all false ts) r) (SumIsAtMost (signed_all false ts) r) old new result → Step (IsLow ts r) (Holds (relation Eq ts r)) old new result
equal_first ts r old new result step =
    step_for (IsLow (signed_all false ts) r) (IsLow ts r) (SumIsAtMost (signed_all false ts) r) (Holds (relation Eq ts r)) old new result
    (λ same low. low_at new.box ts r low)
    (λ θ lies e. at_most ts r θ (omega (arith, ints, e)))
    step

equal_second : (ts : List (ℤ × Term)) (r s : ℤ) (old new : Stored) (result : Passed) → s ≡ neg_ℤ r → Step (IsLow (signed_all true ts) s) (SumIsAtMost (signed_all true ts) s) old new result → Step (IsLow (signed_all true ts) (neg_ℤ r)) (Holds (relation Eq ts r)) old new result
equal_second ts r s old new result is step =
    step_for (IsLow (signed_all true ts) s) (IsLow (signed_all true ts) (neg_ℤ r)) (SumIsAtMost (signed_all true ts) s) (Holds (relation Eq ts r)) old new result
    (λ same low. subst (λ z. IsLow (signed_all true ts) z new.box) is low)
    (λ θ lies e. negative_at_most ts r s θ is (omega (arith, ints, e)))
    step

pub equal_none : (ts : List (ℤ × Term)) (r : ℤ) (old new : Stored) → Step (IsLow (signed_all false ts) r) (SumIsAtMost (signed_all false ts) r) old new passed.Empty → Step (ConIsOwed (relation Eq ts r)) (Holds (relation Eq ts r)) old new passed.Empty
equal_none ts r old new step = step_end (IsLow ts r) (ConIsOwed (relation Eq ts r)) (Holds (relation Eq ts r)) old new (equal_first ts r old new passed.Empty step)

pub equal_step : (ts : List (ℤ × Term)) (r s : ℤ) (old mid new : Stored) (result : Passed) → s ≡ neg_ℤ r → SumInLimits (length old.box) ts → Step (IsLow (signed_all false ts) r) (SumIsAtMost (signed_all false ts) r) old mid passed.Done → Step (IsLow (signed_all true ts) s) (SumIsAtMost (signed_all true ts) s) mid new result → Step (ConIsOwed (relation Eq ts r)) (Holds (relation Eq ts r)) old new result
equal_step ts r s old mid new result is limits first second =
    let up = equal_first ts r old mid passed.Done first in
    let down = equal_second ts r s mid new result is second in
    let both = step_both (IsLow ts r) (IsLow (signed_all true ts) (neg_ℤ r)) (Holds (relation Eq ts r)) old mid new result up down in
    step_as (λ box. IsLow ts r box × IsLow (signed_all true ts) (neg_ℤ r) box) (ConIsOwed (relation Eq ts r)) (Holds (relation Eq ts r)) old new result
    (λ same low. equal_owed new.box ts r second.well_formed (subst (λ b. SumInLimits (length b) ts) (sym same) limits) low.0 low.1)
    both

-- where the sum is low one way from the start, and made low the other way
pub equal_up : (ts : List (ℤ × Term)) (r s : ℤ) (old new : Stored) (result : Passed) → s ≡ neg_ℤ r → SumInLimits (length old.box) ts → IsLow (signed_all true ts) s old.box → Step (IsLow (signed_all false ts) r) (SumIsAtMost (signed_all false ts) r) old new result → Step (ConIsOwed (relation Eq ts r)) (Holds (relation Eq ts r)) old new result
equal_up ts r s old new result is limits down step =
    step_as (IsLow ts r) (ConIsOwed (relation Eq ts r)) (Holds (relation Eq ts r)) old new result
    (λ same low. equal_owed new.box ts r step.well_formed (subst (λ b. SumInLimits (length b) ts) (sym same) limits) low (subst (IsLow (signed_all true ts) (neg_ℤ r)) (sym same) (subst (λ z. IsLow (signed_all true ts) z old.box) is down)))
    (equal_first ts r old new result step)

-- where each term rises so little, both ways
both_means : (ts : List (ℤ × Term)) (r : ℤ) (θ : List ℤ) → Holds (relation Eq ts r) θ → SumIsBoth ts r θ
both_means ts r θ e = record { most = at_most ts r θ (omega (arith, ints, e)); least = negative_at_most ts r (neg_ℤ r) θ refl (omega (arith, ints, e)) }

pub equal_both : (ts : List (ℤ × Term)) (r up down : ℤ) (old new : Stored) → SumInLimits (length old.box) ts → pos 0 ≤ℤ up → pos 0 ≤ℤ down → (up +ℤ sum_low old.box (signed_all false ts)) ≡ r → (down +ℤ sum_low old.box (signed_all true ts)) ≡ neg_ℤ r → Step (EachTo (RisesBoth up down) ts (length ts)) (SumIsBoth ts r) old new passed.Done → Step (ConIsOwed (relation Eq ts r)) (Holds (relation Eq ts r)) old new passed.Done
unfolding EachTo
equal_both ts r up down old new limits some other above below step =
    step_for (EachTo (RisesBoth up down) ts (length ts)) (ConIsOwed (relation Eq ts r)) (SumIsBoth ts r) (Holds (relation Eq ts r)) old new passed.Done
    (λ same each. equal_owed new.box ts r step.well_formed (subst (λ b. SumInLimits (length b) ts) (sym same) limits)
    (low_at new.box ts r (low_from false ts r up new.box some (ap (λ b. up +ℤ sum_low b (signed_all false ts)) same ∙ above) (λ k d h. (each k d h).above)))
    (low_from true ts (neg_ℤ r) down new.box other (ap (λ b. down +ℤ sum_low b (signed_all true ts)) same ∙ below) (λ k d h. (each k d h).below)))
    (λ θ lies e. both_means ts r θ e)
    step

pub both_none : (ts : List (ℤ × Term)) (r : ℤ) (P : List (List ℤ) → Type 0) (old new : Stored) → Step P (SumIsBoth ts r) old new passed.Empty → Step (ConIsOwed (relation Eq ts r)) (Holds (relation Eq ts r)) old new passed.Empty
both_none ts r P old new step =
    step_end P (ConIsOwed (relation Eq ts r)) (Holds (relation Eq ts r)) old new
    (step_for P P (SumIsBoth ts r) (Holds (relation Eq ts r)) old new passed.Empty (λ same p. p) (λ θ lies e. both_means ts r θ e) step)

pub equal_over : (ts : List (ℤ × Term)) (r s : ℤ) (old new : Stored) → s ≡ neg_ℤ r → Step (IsLow (signed_all true ts) s) (SumIsAtMost (signed_all true ts) s) old new passed.Empty → Step (ConIsOwed (relation Eq ts r)) (Holds (relation Eq ts r)) old new passed.Empty
equal_over ts r s old new is step = step_end (IsLow (signed_all true ts) (neg_ℤ r)) (ConIsOwed (relation Eq ts r)) (Holds (relation Eq ts r)) old new (equal_second ts r s old new passed.Empty is step)

-- ---- different from
different_owed : (box : List (List ℤ)) (ts : List (ℤ × Term)) (r : ℤ) → IsBox box → SumInLimits (length box) ts → IsApart ts r box → IsOwed box (relation Ne ts r)
unfolding IsChecked
different_owed box ts r well_formed limits apart = record {
  kind = apart.avoided;
  checked = λ all θ lies same.
      let sum = sum_is box ts θ well_formed limits all lies in
      apart.fixed (fixed_sum box ts all) (sym sum ∙ same);
}

pub different_step : (ts : List (ℤ × Term)) (r : ℤ) (old new : Stored) (result : Passed) → SumInLimits (length old.box) ts → Step (IsApart ts r) (Differs ts r) old new result → Step (ConIsOwed (relation Ne ts r)) (Holds (relation Ne ts r)) old new result
unfolding Differs
different_step ts r old new result limits step =
    step_for (IsApart ts r) (ConIsOwed (relation Ne ts r)) (Differs ts r) (Holds (relation Ne ts r)) old new result
    (λ same apart. different_owed new.box ts r step.well_formed (subst (λ b. SumInLimits (length b) ts) (sym same) limits) apart)
    (λ θ lies h. h)
    step
