-- From a store to its fixpoint.
use Rattle.std.proofs.Common.{◌≡◌, Bool, List, drop, length, get_or, ℤ, ◌<ℤ◌, sym, ap, subst, ◌∙◌, arith, ⊎_elim, Some}
use Rattle.std.specs.Prelude.{All}
use Rattle.std.proofs.lemmas.Int.{ints}
use Rattle.std.proofs.lemmas.List.Elements.{All-cons, All-drop}
use Rattle.fzn_model.specs.declared.con.Con.{Con}
use Rattle.fzn_model.specs.declared.goal.Goal.{Goal}
use Rattle.fzn_model.specs.declared.goal.Goal.TheVariants as goal
use Rattle.fzn_model.specs.Limits.{GoalInLimits}
use Rattle.fzn_model.specs.Boxes.{IsBox}
use Rattle.fzn_model.specs.Booleans.{FitsBox}
use Rattle.dom_store.specs.Stores.{Stored, latest}
use Rattle.dom_store.specs.Narrowing.{Loses, Prunes, Forgets, Settles}
use Rattle.dom_store.specs.Strength.{IsStrong}
use Rattle.dom_store.proofs.Laws.{smaller, low_rises, high_falls}
use Rattle.dom_store.specs.declared.pass.Passed.{Passed}
use Rattle.dom_store.specs.declared.pass.Passed.TheVariants as passed
use Rattle.prop_engine.specs.declared.queue.Ended.TheVariants as ended
use Rattle.prop_engine.specs.declared.fixed.Fixed.TheVariants as fixed
use Rattle.prop_engine.specs.Goals.{IsBelow, CutMeans, greatest_cost}
use Rattle.prop_engine.specs.Plans.{AreStrongIn, IsReady}
use Rattle.prop_engine.specs.Fixing.{Cheaper, Lessens, Fixes, FixedMeans, MeetsEach}
use Rattle.prop_engine.specs.Queues.{AreStrong, Ends}
use Rattle.prop_engine.proofs.Ready.{latest_strong, ready_same}
use Rattle.prop_engine.proofs.Sweeping.{prunes_lessens, marks_lessen, lessens_more, lessens_trans, fits_more}

below_of : (cs : List Con) (g : Goal) (below : ℤ) (θ : List ℤ) → Cheaper (record { cons = cs; goal = g }) below θ → IsBelow g below θ
unfolding IsBelow
below_of cs g below θ p = p.cheaper

meets_of : (cs : List Con) (g : Goal) (below : ℤ) (θ : List ℤ) → Cheaper (record { cons = cs; goal = g }) below θ → MeetsEach cs θ
unfolding MeetsEach
meets_of cs g below θ p = p.holds

-- ---- before the first run
pub cut_lessens : (g : Goal) (below : ℤ) (old new : Stored) → Prunes (IsBelow g below) old new → Lessens (IsBelow g below) old new
cut_lessens g below old new prunes = prunes_lessens (IsBelow g below) old new prunes

-- the latest settling, after a cut that keeps it
pub ready_latest : (cs : List Con) (g : Goal) (below : ℤ) (old new : Stored) → Prunes (IsBelow g below) old new → IsReady old (record { cons = cs; goal = g }) → AreStrongIn cs (latest new.settled)
unfolding IsReady
ready_latest cs g below old new prunes ready = latest_strong cs new.settled (subst (All (AreStrongIn cs)) (sym prunes.stays.settled) ready)

pub forgets_lessens : (g : Goal) (below : ℤ) (old mid new : Stored) → Prunes (IsBelow g below) old mid → Forgets mid new → Lessens (IsBelow g below) old new
forgets_lessens g below old mid new prunes forgets = marks_lessen (IsBelow g below) old mid new (prunes_lessens (IsBelow g below) old mid prunes) forgets.same

pub forgets_strong : (cs : List Con) (waits : List Bool) (mid new : Stored) → Forgets mid new → AreStrong cs waits mid.box → AreStrong cs waits new.box
forgets_strong cs waits mid new forgets strong = subst (AreStrong cs waits) (sym forgets.same.box) strong

pub forgets_means : (g : Goal) (below : ℤ) (old mid new : Stored) (answer : Passed) → Forgets mid new → CutMeans g below old.box mid.box answer → CutMeans g below old.box new.box answer
forgets_means g below old mid new answer forgets means = subst (λ (b : List (List ℤ)). CutMeans g below old.box b answer) (sym forgets.same.box) means

-- ---- all runs
module _ (cs : List Con) (g : Goal) (below : ℤ) (old mid new : Stored) (prepared : Lessens (IsBelow g below) old mid) where
  pub fits_then : All (FitsBox old.box) cs → All (FitsBox mid.box) cs
  fits_then fits_box = fits_more (IsBelow g below) cs old mid prepared fits_box

  cheaper_mid : Lessens (Cheaper (record { cons = cs; goal = g }) below) old mid
  cheaper_mid = lessens_more (IsBelow g below) (Cheaper (record { cons = cs; goal = g }) below) old mid prepared (below_of cs g below)

  cheaper_new : Lessens (MeetsEach cs) mid new → Lessens (Cheaper (record { cons = cs; goal = g }) below) old new
  cheaper_new lessens = lessens_trans (Cheaper (record { cons = cs; goal = g }) below) old mid new cheaper_mid (lessens_more (MeetsEach cs) (Cheaper (record { cons = cs; goal = g }) below) mid new lessens (meets_of cs g below))

  pub fixes_prepared : Fixes (record { cons = cs; goal = g }) below old mid
  fixes_prepared = record { loses = cheaper_mid.loses; saved = cheaper_mid.saved; changes = cheaper_mid.changes }

  pub fixes_run : Lessens (MeetsEach cs) mid new → Fixes (record { cons = cs; goal = g }) below old new
  fixes_run lessens = let all = cheaper_new lessens in record { loses = all.loses; saved = all.saved; changes = all.changes }

  pub ready_prepared : IsReady old (record { cons = cs; goal = g }) → IsReady mid (record { cons = cs; goal = g })
  ready_prepared ready = ready_same (record { cons = cs; goal = g }) old mid prepared.settled ready

  pub ready_run : Lessens (MeetsEach cs) mid new → IsReady old (record { cons = cs; goal = g }) → IsReady new (record { cons = cs; goal = g })
  ready_run lessens ready = ready_same (record { cons = cs; goal = g }) old new (lessens.settled ∙ prepared.settled) ready

  pub means_empty : (last : List (List ℤ)) → Ends cs mid.box new.box ended.Empty → FixedMeans (record { cons = cs; goal = g }) below old.box last fixed.Empty
  unfolding Ends
  means_empty last none θ lies p = none θ (prepared.loses.kept θ lies (below_of cs g below θ p)) (meets_of cs g below θ p)

  pub means_far : Ends cs mid.box new.box ended.EarlyStop → FixedMeans (record { cons = cs; goal = g }) below old.box new.box fixed.EarlyStop
  unfolding Ends
  means_far far = let less = smaller (IsBelow g below) old.box mid.box prepared.loses in omega (arith, less, far)

  goal_mid : GoalInLimits (length old.box) g → GoalInLimits (length mid.box) g
  goal_mid kept = subst (λ n. GoalInLimits n g) (sym prepared.loses.count) kept

-- what was cut stays so
cost_falls : (P : List ℤ → Type 0) (g : Goal) (below : ℤ) (old new : List (List ℤ)) → IsBox old → IsBox new → Loses P old new → GoalInLimits (length old) g → greatest_cost old g <ℤ below → greatest_cost new g <ℤ below
cost_falls P goal.Satisfy below old new was is loses kept less = less
cost_falls P (goal.Minimise t) below old new was is loses kept less = let falls = high_falls P old new t was is loses kept in omega (arith, ints, falls, less)
cost_falls P (goal.Maximise t) below old new was is loses kept less = let rises = low_rises P old new t was is loses kept in omega (arith, ints, rises, less)

pub means_cut : (cs : List Con) (g : Goal) (below : ℤ) (old new : List (List ℤ)) → CutMeans g below old new passed.Empty → FixedMeans (record { cons = cs; goal = g }) below old new fixed.Empty
unfolding CutMeans
means_cut cs g below old new none θ lies p = none θ lies (below_of cs g below θ p)

-- ---- where all waited for their run
module _ (cs : List Con) (g : Goal) (below : ℤ) (old mid now new : Stored) (prepared : Lessens (IsBelow g below) old mid) (lessens : Lessens (MeetsEach cs) mid now) (settles : Settles now new) where
  box_same : new.box ≡ now.box
  box_same = ⊎_elim (λ is. ap (λ (s : Stored). s.box) is) (λ is. ap (λ (s : Stored). s.box) is) settles

  saved_same : new.saved ≡ now.saved
  saved_same = ⊎_elim (λ is. ap (λ (s : Stored). s.saved) is) (λ is. ap (λ (s : Stored). s.saved) is) settles

  changes_same : new.changes ≡ now.changes
  changes_same = ⊎_elim (λ is. ap (λ (s : Stored). s.changes) is) (λ is. ap (λ (s : Stored). s.changes) is) settles

  pub fixes_settled : Fixes (record { cons = cs; goal = g }) below old new
  fixes_settled =
      let fixes = fixes_run cs g below old mid now prepared lessens in
      record {
        loses = subst (λ (b : List (List ℤ)). Loses (Cheaper (record { cons = cs; goal = g }) below) old.box b) (sym box_same) fixes.loses;
        saved = saved_same ∙ fixes.saved;
        changes = omega (arith, fixes.changes, changes_same);
      }

  pub means_kept : CutMeans g below old.box mid.box passed.Done → Ends cs mid.box now.box ended.Kept → IsBox mid.box → IsBox now.box → GoalInLimits (length old.box) g → FixedMeans (record { cons = cs; goal = g }) below old.box new.box fixed.Kept
  unfolding Ends CutMeans
  means_kept cut strong was is kept = record {
    strong = λ k d h. subst (λ (b : List (List ℤ)). IsStrong b (get_or cs k d)) (sym box_same) (strong k d h);
    cut = subst (λ (b : List (List ℤ)). greatest_cost b g <ℤ below) (sym box_same) (cost_falls (MeetsEach cs) g below mid.box now.box was is lessens.loses (goal_mid cs g below old mid now prepared kept) cut);
  }

  pub ready_settled : Ends cs mid.box now.box ended.Kept → IsReady old (record { cons = cs; goal = g }) → IsReady new (record { cons = cs; goal = g })
  unfolding Ends IsReady AreStrongIn
  ready_settled strong ready =
      let before : All (AreStrongIn cs) now.settled = subst (All (AreStrongIn cs)) (sym (lessens.settled ∙ prepared.settled)) ready in
      ⊎_elim
      (λ is. subst (All (AreStrongIn cs)) (sym (ap (λ (s : Stored). s.settled) is)) (All-cons (AreStrongIn cs) (Some now.box) (drop 1 now.settled) strong (All-drop (AreStrongIn cs) 1 now.settled before)))
      (λ is. subst (All (AreStrongIn cs)) (sym (ap (λ (s : Stored). s.settled) is)) before)
      settles
