use Rattle.std.proofs.Common.{◌*◌, ◌^◌, ◌≤◌, drop}
use Rattle.std.specs.Prelude.{unsigned_abs}
use Rattle.rest_forms.specs.Sweep.{AreChanges, Swept}
use Rattle.rest_forms.proofs.used_runs.used_runs.Given as goal

abbrev pub invariant-loop-change : goal.invariant-loop-change
invariant-loop-change l = record {
  changes : AreChanges l.used l.change-items;
  swept : Swept l.used (drop l.change-index l.change-items) l.sweep;
  small : unsigned_abs l.sweep.amount ≤ 2 ^ 100 * l.change-index;
}
