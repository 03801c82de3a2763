-- Runs of the propagators that wait.
use Rattle.std.proofs.Common.{◌≡◌, ℕ, ◌+◌, ◌*◌, ◌<◌, ◌≤◌, Bool, List, length, ℤ, refl, sym, ap, subst, arith}
use Rattle.std.specs.Prelude.{All}
use Rattle.std.proofs.lemmas.Nat.{mul-le}
use Rattle.mark_set.specs.Marks.{IsClear, Takes, marked_count}
use Rattle.mark_set.proofs.Marking.{takes_fewer, count_most}
use Rattle.fzn_model.specs.declared.con.Con.{Con}
use Rattle.fzn_model.specs.Booleans.{FitsBox}
use Rattle.dom_store.specs.Stores.{Stored, box_size}
use Rattle.dom_store.proofs.Laws.{smaller, none_before}
use Rattle.prop_engine.specs.declared.queue.Turned.{Turned}
use Rattle.prop_engine.specs.declared.queue.Turned.TheVariants as turned
use Rattle.prop_engine.specs.declared.queue.Ended.TheVariants as ended
use Rattle.prop_engine.specs.Plans.{CanHold}
use Rattle.prop_engine.specs.declared.readers.Readers.{Readers}
use Rattle.prop_engine.specs.Readers.{AreRead}
use Rattle.prop_engine.specs.Fixing.{MeetsEach, Lessens}
use Rattle.prop_engine.specs.Queues.{AreStrong, AreStrongBut, Turns, Ends}
use Rattle.prop_engine.proofs.Sweeping.{fits_more}
use Rattle.prop_engine.proofs.Waking.{but_one, all_strong}

-- the same, where the loop holds an equal list
pub fits_on : (cs ds : List Con) (old now : Stored) → ds ≡ cs → Lessens (MeetsEach cs) old now → All (FitsBox old.box) cs → All (FitsBox now.box) ds
fits_on cs ds old now equal lessens fits_box = subst (λ (xs : List Con). All (FitsBox now.box) xs) (sym equal) (fits_more (MeetsEach cs) cs old now lessens fits_box)

pub read_on : (cs ds : List Con) (readers : Readers) → ds ≡ cs → AreRead cs (length cs) readers → AreRead ds (length ds) readers
read_on cs ds readers equal read = subst (λ (xs : List Con). AreRead xs (length xs) readers) (sym equal) read

pub can_on : (cs ds : List Con) → ds ≡ cs → All CanHold cs → All CanHold ds
can_on cs ds equal can = subst (λ (xs : List Con). All CanHold xs) (sym equal) can

pub one_waits : (cs ds : List Con) (at : ℕ) (was waits : List Bool) (box : List (List ℤ)) → ds ≡ cs → Takes at was waits → AreStrong cs was box → AreStrongBut at ds waits box
one_waits cs ds at was waits box equal takes strong = subst (λ (xs : List Con). AreStrongBut at xs waits box) (sym equal) (but_one cs at was waits box takes strong)

-- what a turn says of what waits
pub strong_on : (cs : List Con) (was waits : List Bool) (old new : List (List ℤ)) (answer : Turned) → (answer ≡ turned.Empty → ⊥) → Turns cs was waits old new answer → AreStrong cs waits new
unfolding Turns
strong_on cs was waits old new turned.Quiet some turns = turns.2
strong_on cs was waits old new turned.Fell some turns = turns.1
strong_on cs was waits old new turned.Empty some turns = absurd (some refl)

-- how much there is to do
unfoldable pub to_do : ℕ → List (List ℤ) → List Bool → ℕ
to_do count box waits = box_size box * (count + 1) + marked_count waits

less_by : (big small n more most : ℕ) → small < big → more ≤ n → small * (n + 1) + more < big * (n + 1) + most
less_by big small n more most h few =
    let whole : (small + 1) * (n + 1) ≤ big * (n + 1) = mul-le (small + 1) (n + 1) big (n + 1) (omega (arith, h)) (omega arith) in
    let parts : (small + 1) * (n + 1) ≡ small * (n + 1) + (n + 1) = grind arith in
    omega (arith, whole, parts, few)

pub less_to_do : (cs : List Con) (at : ℕ) (before was waits : List Bool) (old new : List (List ℤ)) (answer : Turned) → Takes at before was → (answer ≡ turned.Empty → ⊥) → length waits ≡ length cs → Turns cs was waits old new answer → to_do (length cs) new waits < to_do (length cs) old before
unfolding to_do Turns
less_to_do cs at before was waits old new turned.Quiet takes some room turns =
    let fewer = takes_fewer at before was takes in
    let same : marked_count waits ≡ marked_count was = ap marked_count turns.1 in
    let size : box_size new * (length cs + 1) ≡ box_size old * (length cs + 1) = ap (λ b. box_size b * (length cs + 1)) turns.0 in
    omega (arith, fewer, same, size)
less_to_do cs at before was waits old new turned.Fell takes some room turns =
    let few = count_most waits in
    less_by (box_size old) (box_size new) (length cs) (marked_count waits) (marked_count before) turns.0 (omega (arith, few, room))
less_to_do cs at before was waits old new turned.Empty takes some room turns = absurd (some refl)

-- ---- at the end
pub ends_kept : (cs : List Con) (waits : List Bool) (old new : List (List ℤ)) → IsClear waits → AreStrong cs waits new → Ends cs old new ended.Kept
unfolding Ends
ends_kept cs waits old new clear strong = all_strong cs waits new clear strong

pub ends_empty : (cs : List Con) (was waits : List Bool) (old now then : Stored) → Lessens (MeetsEach cs) old now → Turns cs was waits now.box then.box turned.Empty → Ends cs old.box then.box ended.Empty
unfolding Ends Turns
ends_empty cs was waits old now then lessens none = none_before (MeetsEach cs) old.box now.box lessens.loses none

pub ends_far : (cs : List Con) (old new : List (List ℤ)) → box_size new + 100000 ≤ box_size old → Ends cs old new ended.EarlyStop
unfolding Ends
ends_far cs old new far = far

pub not_more : (cs : List Con) (old new : Stored) → Lessens (MeetsEach cs) old new → box_size new.box ≤ box_size old.box
not_more cs old new lessens = smaller (MeetsEach cs) old.box new.box lessens.loses
