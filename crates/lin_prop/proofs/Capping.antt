-- A pass over the terms of a sum that has to be at most a number.
use Rattle.std.proofs.Common.{◌≡◌, ℕ, zero, suc, ◌<◌, List, [], ◌∷◌, length, get_or, ℤ, pos, negsuc, ◌+ℤ◌, ◌-ℤ◌, ◌*ℤ◌, ◌≤ℤ◌, ◌<ℤ◌, sym, ap, ◌∙◌, arith, subst}
use Rattle.std.specs.Prelude.{Bool, true, false, neg_ℤ}
use Rattle.std.proofs.lemmas.Int.{ints}
use Rattle.std.proofs.lemmas.List.{length-map, get_or-map}
use Rattle.fzn_model.specs.declared.term.Term.{Term}
use Rattle.fzn_model.specs.Meaning.{val, lin_sum}
use Rattle.fzn_model.specs.Limits.{TermIn, SumInLimits}
use Rattle.fzn_model.specs.Boxes.{IsBox, InBox}
use Rattle.fzn_model.specs.Bounds.{scaled_low, scaled_high, sum_low, others_low}
use Rattle.fzn_model.proofs.Terms.{low_to_high}
use Rattle.fzn_model.proofs.Products.{up_mono, down_mono, low_up, low_down}
use Rattle.fzn_model.proofs.LinearBounds.{ScaledIn, tail_in, scaled_least, sum_least}
use Rattle.dom_store.specs.Stores.{Stored}
use Rattle.dom_store.specs.Narrowing.{Loses}
use Rattle.dom_store.specs.Steps.{Step, NarrowsTerm, Spares, EachTo}
use Rattle.dom_store.specs.Strength.{IsCapped}
use Rattle.dom_store.specs.declared.pass.Passed.{Passed}
use Rattle.dom_store.specs.declared.pass.Passed.TheVariants as passed
use Rattle.dom_store.proofs.Laws.{low_rises, high_falls}
use Rattle.dom_store.proofs.Stepping.{Fact, Wish, narrowed, step_as, step_both, step_idle, step_none, step_then}
use Rattle.dom_store.proofs.Opposites.{low_of_negated, high_of_negated}
use Rattle.fzn_model.specs.Opposites.{negated_one}
use Rattle.dom_store.specs.declared.sums.Reach.{Reach}
use Rattle.lin_prop.specs.declared.capped.Slack.TheVariants as slack
use Rattle.lin_prop.proofs.Negating.{same_all, low_negated}
use Rattle.lin_prop.specs.Signed.{signed, signed_all}
use Rattle.dom_store.specs.Sums.{RisesWithin, IsReach}
use Rattle.lin_prop.specs.Capped.{SumIsAtMost, IsLow, ScaledIsAtMost, RisesBoth, SumIsBoth, low_by, SlackMeans}
use Rattle.lin_prop.proofs.Scaling.{same_term}

-- what the other terms leave
left_by : (box : List (List ℤ)) (ts : List (ℤ × Term)) (i : ℕ) (d : ℤ × Term) (θ : List ℤ) → IsBox box → ScaledIn (length box) ts → InBox box θ → i < length ts → ((get_or ts i d).0 *ℤ val (get_or ts i d).1 θ +ℤ others_low box ts (get_or ts i d)) ≤ℤ lin_sum ts θ
left_by box [] i d θ well_formed inside lies h = absurd (omega (arith, h))
left_by box (t ∷ ts) zero d θ well_formed inside lies h =
    let rest = sum_least box ts θ well_formed (tail_in _ t ts inside) lies in
    omega (arith, ints, rest)
left_by box (t ∷ ts) (suc i) d θ well_formed inside lies h =
    let one = scaled_least box t θ well_formed (inside zero t (omega arith)) lies in
    let rest = left_by box ts i d θ well_formed (tail_in _ t ts inside) lies (omega (arith, h)) in
    omega (arith, ints, one, rest)

-- the least of a term rises as the box gets smaller
scaled_rises : (P : List ℤ → Type 0) (old new : List (List ℤ)) (t : ℤ × Term) → IsBox old → IsBox new → Loses P old new → TermIn (length old) t.1 → TermIn (length new) t.1 → scaled_low old t ≤ℤ scaled_low new t
scaled_rises P old new (pos n, t) was is loses inside within =
    let low = low_up (pos n) _ _ (omega (arith, ints)) (low_to_high old t was inside) in
    let then = low_up (pos n) _ _ (omega (arith, ints)) (low_to_high new t is within) in
    let more = up_mono n _ _ (low_rises P old new t was is loses inside) in
    omega (arith, ints, low, then, more)
scaled_rises P old new (negsuc n, t) was is loses inside within =
    let low = low_down (negsuc n) _ _ (omega (arith, ints)) (low_to_high old t was inside) in
    let then = low_down (negsuc n) _ _ (omega (arith, ints)) (low_to_high new t is within) in
    let more = down_mono n _ _ (high_falls P old new t was is loses inside) in
    omega (arith, ints, low, then, more)

all_length : (on : Bool) (ts : List (ℤ × Term)) → length (signed_all on ts) ≡ length ts
unfolding signed_all
all_length on ts = length-map ts (signed on)

all_at : (on : Bool) (ts : List (ℤ × Term)) (i : ℕ) (d e : ℤ × Term) → i < length ts → get_or (signed_all on ts) i d ≡ signed on (get_or ts i e)
unfolding signed_all
all_at on ts i d e h = get_or-map (signed on) ts i e d h

all_in : (on : Bool) (n : ℕ) (ts : List (ℤ × Term)) → SumInLimits n ts → ScaledIn n (signed_all on ts)
all_in on n ts limits k d h =
    let here : k < length ts = omega (arith, h, all_length on ts) in
    subst (λ (t : ℤ × Term). TermIn n t.1) (sym (all_at on ts k d d here)) (subst (TermIn n) (sym (same_term on (get_or ts k d))) (limits.terms k d here))

-- the sum is greater from the start
sum_exceeds : (on : Bool) (s : Stored) (ts : List (ℤ × Term)) (most : ℤ) → IsBox s.box → SumInLimits (length s.box) ts → most <ℤ sum_low s.box (signed_all on ts) → Step (IsLow (signed_all on ts) most) (SumIsAtMost (signed_all on ts) most) s s passed.Empty
unfolding SumIsAtMost
sum_exceeds on s ts most well_formed limits over =
    step_none _ _ s well_formed (λ θ lies at_most.
    let least = sum_least s.box (signed_all on ts) θ well_formed (all_in on _ ts limits) lies in
    omega (arith, ints, least, over, at_most))

-- what one term may have, in a box that the pass has come to, where what is wished makes the sum at most the number
spared : (Q : Wish) (on : Bool) (was now : List (List ℤ)) (ts : List (ℤ × Term)) (i : ℕ) (d : ℤ × Term) (most slack : ℤ) → ((θ : List ℤ) → Q θ → SumIsAtMost (signed_all on ts) most θ) → IsBox was → IsBox now → SumInLimits (length was) ts → Loses Q was now → i < length ts → (slack +ℤ sum_low was (signed_all on ts)) ≡ most → Spares (ScaledIsAtMost (signed on (get_or ts i d)) (slack +ℤ scaled_low now (signed on (get_or ts i d)))) Q (get_or ts i d).1 now
unfolding SumIsAtMost ScaledIsAtMost
spared Q on was now ts i d most slack means well_formed is limits loses h sum θ lies wished =
    let at_most : lin_sum (signed_all on ts) θ ≤ℤ most = means θ wished in
    let lay : InBox was θ = record { count = lies.count ∙ loses.count; each = λ k less. loses.within k _ (lies.each k (omega (arith, less, loses.count))) } in
    let inside : TermIn (length was) (signed on (get_or ts i d)).1 = subst (TermIn (length was)) (sym (same_term on (get_or ts i d))) (limits.terms i d h) in
    let within : TermIn (length now) (signed on (get_or ts i d)).1 = subst (λ n. TermIn n (signed on (get_or ts i d)).1) (sym loses.count) inside in
    let rises = scaled_rises Q was now (signed on (get_or ts i d)) well_formed is loses inside within in
    let left = left_by was (signed_all on ts) i (signed on d) θ well_formed (all_in on _ ts limits) lay (omega (arith, h, all_length on ts)) in
    let same : get_or (signed_all on ts) i (signed on d) ≡ signed on (get_or ts i d) = all_at on ts i (signed on d) d h in
    let left_is = subst (λ (t : ℤ × Term). (t.0 *ℤ val t.1 θ +ℤ others_low was (signed_all on ts) t) ≤ℤ lin_sum (signed_all on ts) θ) same left in
    let value : val (signed on (get_or ts i d)).1 θ ≡ val (get_or ts i d).1 θ = ap (λ t. val t θ) (same_term on (get_or ts i d)) in
    let product : (signed on (get_or ts i d)).0 *ℤ val (signed on (get_or ts i d)).1 θ ≡ (signed on (get_or ts i d)).0 *ℤ val (get_or ts i d).1 θ = ap (λ v. (signed on (get_or ts i d)).0 *ℤ v) value in
    omega (arith, ints, rises, left_is, product, sum, at_most)

-- the narrowing of one term
step_by : (Q : Wish) (on : Bool) (was now then : Stored) (ts : List (ℤ × Term)) (i : ℕ) (d : ℤ × Term) (most slack : ℤ) (P : Fact) (result : Passed) → ((θ : List ℤ) → Q θ → SumIsAtMost (signed_all on ts) most θ) → IsBox was.box → SumInLimits (length was.box) ts → i < length ts → (slack +ℤ sum_low was.box (signed_all on ts)) ≡ most → Step P Q was now passed.Done → NarrowsTerm (ScaledIsAtMost (signed on (get_or ts i d)) (slack +ℤ scaled_low now.box (signed on (get_or ts i d)))) (RisesWithin slack (signed on (get_or ts i d))) (get_or ts i d).1 now then result → Step (RisesWithin slack (signed on (get_or ts i d))) Q now then result
step_by Q on was now then ts i d most slack P result means well_formed limits h sum before narrows =
    narrowed Q narrows (spared Q on was.box now.box ts i d most slack means well_formed before.well_formed limits before.prunes.loses h sum)

pub scaled_step : (on : Bool) (was now then : Stored) (ts : List (ℤ × Term)) (i : ℕ) (d : ℤ × Term) (most slack : ℤ) (P : Fact) (result : Passed) → IsBox was.box → SumInLimits (length was.box) ts → i < length ts → (slack +ℤ sum_low was.box (signed_all on ts)) ≡ most → Step P (SumIsAtMost (signed_all on ts) most) was now passed.Done → NarrowsTerm (ScaledIsAtMost (signed on (get_or ts i d)) (slack +ℤ scaled_low now.box (signed on (get_or ts i d)))) (RisesWithin slack (signed on (get_or ts i d))) (get_or ts i d).1 now then result → Step (RisesWithin slack (signed on (get_or ts i d))) (SumIsAtMost (signed_all on ts) most) now then result
scaled_step on was now then ts i d most slack P result well_formed limits h sum before narrows =
    step_by (SumIsAtMost (signed_all on ts) most) on was now then ts i d most slack P result (λ θ at_most. at_most) well_formed limits h sum before narrows

-- ---- both ways at once
pub up_step : (was now then : Stored) (ts : List (ℤ × Term)) (i : ℕ) (d : ℤ × Term) (r up down : ℤ) (result : Passed) → IsBox was.box → SumInLimits (length was.box) ts → i < length ts → (up +ℤ sum_low was.box (signed_all false ts)) ≡ r → Step (EachTo (RisesBoth up down) ts i) (SumIsBoth ts r) was now passed.Done → NarrowsTerm (ScaledIsAtMost (signed false (get_or ts i d)) (up +ℤ scaled_low now.box (signed false (get_or ts i d)))) (RisesWithin up (signed false (get_or ts i d))) (get_or ts i d).1 now then result → Step (RisesWithin up (signed false (get_or ts i d))) (SumIsBoth ts r) now then result
up_step was now then ts i d r up down result well_formed limits h sum before narrows =
    step_by (SumIsBoth ts r) false was now then ts i d r up (EachTo (RisesBoth up down) ts i) result (λ θ both. both.most) well_formed limits h sum before narrows

pub down_step : (was now mid then : Stored) (ts : List (ℤ × Term)) (i : ℕ) (d : ℤ × Term) (r up down : ℤ) (result : Passed) → IsBox was.box → SumInLimits (length was.box) ts → i < length ts → (down +ℤ sum_low was.box (signed_all true ts)) ≡ neg_ℤ r → Step (EachTo (RisesBoth up down) ts i) (SumIsBoth ts r) was now passed.Done → Step (RisesWithin up (signed false (get_or ts i d))) (SumIsBoth ts r) now mid passed.Done → NarrowsTerm (ScaledIsAtMost (signed true (get_or ts i d)) (down +ℤ scaled_low mid.box (signed true (get_or ts i d)))) (RisesWithin down (signed true (get_or ts i d))) (get_or ts i d).1 mid then result → Step (RisesBoth up down (get_or ts i d)) (SumIsBoth ts r) now then result
down_step was now mid then ts i d r up down result well_formed limits h sum before first narrows =
    let both = step_both (EachTo (RisesBoth up down) ts i) (RisesWithin up (signed false (get_or ts i d))) (SumIsBoth ts r) was now mid passed.Done before first in
    let second = step_by (SumIsBoth ts r) true was mid then ts i d (neg_ℤ r) down (λ box. EachTo (RisesBoth up down) ts i box × RisesWithin up (signed false (get_or ts i d)) box) result (λ θ both. both.least) well_formed limits h sum both narrows in
    step_then (RisesWithin up (signed false (get_or ts i d))) (RisesWithin down (signed true (get_or ts i d))) (RisesBoth up down (get_or ts i d)) (SumIsBoth ts r) now mid then result (λ a b. record { above = a; below = b }) first second

-- where each term rises so little, the sum is low
pub low_from : (on : Bool) (ts : List (ℤ × Term)) (most slack : ℤ) (box : List (List ℤ)) → pos 0 ≤ℤ slack → (slack +ℤ sum_low box (signed_all on ts)) ≡ most → EachTo (λ t. RisesWithin slack (signed on t)) ts (length ts) box → IsLow (signed_all on ts) most box
unfolding IsCapped EachTo RisesWithin
low_from on ts most slack box some sum each = record {
  sum = omega (arith, ints, some, sum);
  capped = λ k d h.
      let here : k < length ts = omega (arith, h, all_length on ts) in
      let high = each k d here in
      subst (λ (t : ℤ × Term). (scaled_high box t +ℤ others_low box (signed_all on ts) t) ≤ℤ most) (sym (all_at on ts k d d here)) (omega (arith, ints, high, sum));
}

pub all_low : (on : Bool) (ts : List (ℤ × Term)) (most slack : ℤ) (old new : Stored) → pos 0 ≤ℤ slack → (slack +ℤ sum_low old.box (signed_all on ts)) ≡ most → Step (EachTo (λ t. RisesWithin slack (signed on t)) ts (length ts)) (SumIsAtMost (signed_all on ts) most) old new passed.Done → Step (IsLow (signed_all on ts) most) (SumIsAtMost (signed_all on ts) most) old new passed.Done
all_low on ts most slack old new some sum step =
    step_as (EachTo (λ t. RisesWithin slack (signed on t)) ts (length ts)) (IsLow (signed_all on ts) most) (SumIsAtMost (signed_all on ts) most) old new passed.Done
    (λ same each. low_from on ts most slack new.box some (ap (λ b. slack +ℤ sum_low b (signed_all on ts)) same ∙ sum) each)
    step

-- ---- what is known of a sum at the start
low_known : (on : Bool) (box : List (List ℤ)) (ts : List (ℤ × Term)) (reach : Reach) → IsReach box ts reach → low_by on reach ≡ sum_low box (signed_all on ts)
low_known false box ts reach known = known.least ∙ sym (ap (sum_low box) (same_all ts))
low_known true box ts reach known = ap (λ z. neg_ℤ z) known.most ∙ sym (low_negated box ts)

-- a term rises as far as its negative
rises_signed : (on : Bool) (box : List (List ℤ)) (t : ℤ × Term) (rise slack : ℤ) → rise ≤ℤ slack → RisesWithin rise t box → RisesWithin slack (signed on t) box
unfolding RisesWithin negated_one
rises_signed false box t rise slack more within = omega (arith, ints, more, within)
rises_signed true box t rise slack more within =
    let low : scaled_low box (signed true t) ≡ neg_ℤ (scaled_high box t) = low_of_negated box t in
    let high : scaled_high box (signed true t) ≡ neg_ℤ (scaled_low box t) = high_of_negated box t in
    omega (arith, ints, low, high, more, within)

each_signed : (on : Bool) (box : List (List ℤ)) (ts : List (ℤ × Term)) (rise slack : ℤ) → rise ≤ℤ slack → EachTo (RisesWithin rise) ts (length ts) box → EachTo (λ t. RisesWithin slack (signed on t)) ts (length ts) box
unfolding EachTo
each_signed on box ts rise slack more each k d h = rises_signed on box (get_or ts k d) rise slack more (each k d h)

pub reach_exceeds : (on : Bool) (s : Stored) (ts : List (ℤ × Term)) (reach : Reach) (most : ℤ) → IsBox s.box → SumInLimits (length s.box) ts → IsReach s.box ts reach → SlackMeans (most -ℤ low_by on reach) reach.rise slack.Over → Step (IsLow (signed_all on ts) most) (SumIsAtMost (signed_all on ts) most) s s passed.Empty
reach_exceeds on s ts reach most well_formed limits known over =
    let low = low_known on s.box ts reach known in
    sum_exceeds on s ts most well_formed limits (omega (arith, ints, low, over))

pub ample_low : (on : Bool) (box : List (List ℤ)) (ts : List (ℤ × Term)) (reach : Reach) (most : ℤ) → IsReach box ts reach → SlackMeans (most -ℤ low_by on reach) reach.rise slack.Ample → IsLow (signed_all on ts) most box
ample_low on box ts reach most known ample =
    let low = low_known on box ts reach known in
    low_from on ts most (most -ℤ low_by on reach) box ample.0 (omega (arith, ints, low)) (each_signed on box ts reach.rise (most -ℤ low_by on reach) ample.1 known.rises)

pub reach_ample : (on : Bool) (s : Stored) (ts : List (ℤ × Term)) (reach : Reach) (most : ℤ) → IsBox s.box → IsReach s.box ts reach → SlackMeans (most -ℤ low_by on reach) reach.rise slack.Ample → Step (IsLow (signed_all on ts) most) (SumIsAtMost (signed_all on ts) most) s s passed.Done
reach_ample on s ts reach most well_formed known ample = step_idle _ _ s well_formed (ample_low on s.box ts reach most known ample)

pub reach_leaves : (on : Bool) (box : List (List ℤ)) (ts : List (ℤ × Term)) (reach : Reach) (most s : ℤ) → IsReach box ts reach → SlackMeans (most -ℤ low_by on reach) reach.rise (slack.Scarce s) → (s +ℤ sum_low box (signed_all on ts)) ≡ most
reach_leaves on box ts reach most s known scarce =
    let low = low_known on box ts reach known in
    omega (arith, ints, low, scarce.1)
