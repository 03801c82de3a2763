use Rattle.std.proofs.Common.{◌≤ℤ◌}
use Rattle.reif_prop.specs.Values.{HasNoneBefore}
use Rattle.reif_prop.proofs.values.has_within.Given as goal

abbrev pub invariant-loop-value : goal.invariant-loop-value
invariant-loop-value l = record {
  from : l.first ≤ℤ l.value;
  none : HasNoneBefore l.store.box l.x l.low l.value;
}
