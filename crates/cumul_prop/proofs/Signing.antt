-- Lengths, uses and the capacity aren't negative.
use Rattle.std.proofs.Common.{◌≡◌, ℕ, ◌+◌, ◌<◌, List, length, get_or, ℤ, pos, sym, subst, arith, inl, inr}
use Rattle.std.proofs.lemmas.Bool.{cases_lt}
use Rattle.std.proofs.lemmas.List.{get_or_default}
use Rattle.fzn_model.specs.declared.term.Term.{Term}
use Rattle.fzn_model.specs.declared.cumulative.CumTask.{CumTask}
use Rattle.fzn_model.specs.declared.cumulative.Used.{Used}
use Rattle.fzn_model.specs.declared.con.Con.{Con}
use Rattle.fzn_model.specs.declared.con.Con.TheVariants as con
use Rattle.fzn_model.specs.Limits.{TermIn, TasksInLimits}
use Rattle.fzn_model.specs.Meaning.{val, Holds, AreTasks}
use Rattle.fzn_model.specs.Boxes.{IsBox}
use Rattle.fzn_model.proofs.Moments.{fits_limit}
use Rattle.dom_store.specs.Stores.{Stored}
use Rattle.dom_store.specs.declared.pass.Passed.{Passed}
use Rattle.dom_store.specs.declared.pass.Passed.TheVariants as passed
use Rattle.dom_store.specs.Narrowing.{Prunes}
use Rattle.dom_store.specs.Steps.{Spares, Step, NarrowsTerm, LowIs, IsAtLeast}
use Rattle.dom_store.proofs.Stepping.{narrowed, step_idle, step_then, step_end, step_end_after}
use Rattle.cumul_prop.specs.Parts.{IsReady, IsSigned, AreSignedTo}
use Rattle.cumul_prop.specs.Narrowing.{SignedAt, IsSignedAll}

-- what is left of the box has the variables of the constraint too
pub ready_on : (ks : List CumTask) (us : List Used) (b : Term) (c : Con) (old new : Stored) → Prunes (Holds c) old new → IsBox new.box → IsReady old.box ks us b → IsReady new.box ks us b
ready_on ks us b c old new runs well_formed ready = record {
  well_formed = well_formed;
  tasks = subst (λ n. TasksInLimits n ks) (sym runs.loses.count) ready.tasks;
  used = ready.used;
  capacity = subst (λ n. TermIn n b) (sym runs.loses.count) ready.capacity;
}

pub ready_after : (P : List (List ℤ) → Type 0) (ks : List CumTask) (us : List Used) (b : Term) (c : Con) (old new : Stored) (result : Passed) → Step P (Holds c) old new result → IsReady old.box ks us b → IsReady new.box ks us b
ready_after P ks us b c old new result step ready = ready_on ks us b c old new step.prunes step.well_formed ready

module _ (ks : List CumTask) (us : List Used) (b : Term) where
  duration_spared : (at : ℕ) (d : CumTask) (box : List (List ℤ)) → at < length ks → Spares (IsAtLeast (pos 0)) (Holds (con.CumulUsed ks us b)) (get_or ks at d).d box
  unfolding AreTasks
  duration_spared at d box inside θ lies holds = (holds.0 at d inside).0

  usage_spared : (at : ℕ) (d : CumTask) (box : List (List ℤ)) → at < length ks → Spares (IsAtLeast (pos 0)) (Holds (con.CumulUsed ks us b)) (get_or ks at d).r box
  unfolding AreTasks
  usage_spared at d box inside θ lies holds = (holds.0 at d inside).1

  signed_at : (at : ℕ) (d : CumTask) (box : List (List ℤ)) → at < length ks → LowIs (get_or ks at d).d (pos 0) box → LowIs (get_or ks at d).r (pos 0) box → SignedAt ks at box
  unfolding LowIs SignedAt
  signed_at at d box inside duration usage e = subst (IsSigned box) (get_or_default ks at d e inside) (record { duration = duration; usage = usage })

  pub signed_then : (at : ℕ) (d : CumTask) (old mid new : Stored) (result : Passed) → at < length ks → NarrowsTerm (IsAtLeast (pos 0)) (LowIs (get_or ks at d).d (pos 0)) (get_or ks at d).d old mid passed.Done → NarrowsTerm (IsAtLeast (pos 0)) (LowIs (get_or ks at d).r (pos 0)) (get_or ks at d).r mid new result
      → Step (SignedAt ks at) (Holds (con.CumulUsed ks us b)) old new result
  signed_then at d old mid new result inside first second =
      step_then (LowIs (get_or ks at d).d (pos 0)) (LowIs (get_or ks at d).r (pos 0)) (SignedAt ks at) (Holds (con.CumulUsed ks us b)) old mid new result (signed_at at d new.box inside)
      (narrowed (Holds (con.CumulUsed ks us b)) first (duration_spared at d old.box inside)) (narrowed (Holds (con.CumulUsed ks us b)) second (usage_spared at d mid.box inside))

  pub signed_never : (at : ℕ) (d : CumTask) (old new : Stored) → at < length ks → NarrowsTerm (IsAtLeast (pos 0)) (LowIs (get_or ks at d).d (pos 0)) (get_or ks at d).d old new passed.Empty → Step (SignedAt ks at) (Holds (con.CumulUsed ks us b)) old new passed.Empty
  signed_never at d old new inside first = step_end (LowIs (get_or ks at d).d (pos 0)) (SignedAt ks at) (Holds (con.CumulUsed ks us b)) old new (narrowed (Holds (con.CumulUsed ks us b)) first (duration_spared at d old.box inside))

  -- ---- tasks in a row
  pub signed_none : (s : Stored) → IsBox s.box → Step (AreSignedTo ks 0) (Holds (con.CumulUsed ks us b)) s s passed.Done
  unfolding AreSignedTo
  signed_none s well_formed = step_idle (AreSignedTo ks 0) (Holds (con.CumulUsed ks us b)) s well_formed (λ k d h. absurd (omega arith))

  signed_both : (n : ℕ) (box : List (List ℤ)) → AreSignedTo ks n box → SignedAt ks n box → AreSignedTo ks (n + 1) box
  unfolding AreSignedTo SignedAt
  signed_both n box before here k d h = elim (cases_lt k n) [
    | inl less ↦ before k d less
    | inr last ↦ let at : k ≡ n = omega (arith, h, last) in subst (λ i. IsSigned box (get_or ks i d)) (sym at) (here d)
  ]

  pub signed_more : (n : ℕ) (old mid new : Stored) → Step (AreSignedTo ks n) (Holds (con.CumulUsed ks us b)) old mid passed.Done → Step (SignedAt ks n) (Holds (con.CumulUsed ks us b)) mid new passed.Done → Step (AreSignedTo ks (n + 1)) (Holds (con.CumulUsed ks us b)) old new passed.Done
  signed_more n old mid new first second = step_then (AreSignedTo ks n) (SignedAt ks n) (AreSignedTo ks (n + 1)) (Holds (con.CumulUsed ks us b)) old mid new passed.Done (signed_both n new.box) first second

  pub signed_end : (n m : ℕ) (old mid new : Stored) → Step (AreSignedTo ks n) (Holds (con.CumulUsed ks us b)) old mid passed.Done → Step (SignedAt ks n) (Holds (con.CumulUsed ks us b)) mid new passed.Empty → Step (AreSignedTo ks m) (Holds (con.CumulUsed ks us b)) old new passed.Empty
  signed_end n m old mid new first second = step_end_after (AreSignedTo ks n) (SignedAt ks n) (AreSignedTo ks m) (Holds (con.CumulUsed ks us b)) old mid new first second

  -- ---- the capacity
  pub signed_capacity : (old new : Stored) (result : Passed) → IsReady old.box ks us b → NarrowsTerm (IsAtLeast (pos 0)) (LowIs b (pos 0)) b old new result → Step (LowIs b (pos 0)) (Holds (con.CumulUsed ks us b)) old new result
  signed_capacity old new result ready move = narrowed (Holds (con.CumulUsed ks us b)) move (λ θ lies holds. fits_limit us ks θ (val b θ) ready.used holds.0 holds.1)

  signed_whole : (box : List (List ℤ)) → AreSignedTo ks (length ks) box → LowIs b (pos 0) box → IsSignedAll ks b box
  unfolding LowIs
  signed_whole box tasks capacity = record { tasks = tasks; capacity = capacity }

  pub all_signed : (old mid new : Stored) (result : Passed) → Step (AreSignedTo ks (length ks)) (Holds (con.CumulUsed ks us b)) old mid passed.Done → Step (LowIs b (pos 0)) (Holds (con.CumulUsed ks us b)) mid new result → Step (IsSignedAll ks b) (Holds (con.CumulUsed ks us b)) old new result
  all_signed old mid new result first second = step_then (AreSignedTo ks (length ks)) (LowIs b (pos 0)) (IsSignedAll ks b) (Holds (con.CumulUsed ks us b)) old mid new result (signed_whole new.box) first second

  pub all_never : (old new : Stored) → Step (AreSignedTo ks (length ks)) (Holds (con.CumulUsed ks us b)) old new passed.Empty → Step (IsSignedAll ks b) (Holds (con.CumulUsed ks us b)) old new passed.Empty
  all_never old new first = step_end (AreSignedTo ks (length ks)) (IsSignedAll ks b) (Holds (con.CumulUsed ks us b)) old new first
