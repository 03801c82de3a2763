use Rattle.std.proofs.Common.{◌≤ℤ◌}
use Rattle.dom_store.specs.declared.pass.Passed.TheVariants as passed
use Rattle.dom_store.specs.Steps.{Step}
use Rattle.reif_prop.specs.Denying.{AreOff, Misses}
use Rattle.reif_prop.proofs.member.drop_from.Given as goal

abbrev pub invariant-loop-value : goal.invariant-loop-value
invariant-loop-value l = record {
  from : l.first ≤ℤ l.value;
  steps : Step (AreOff l.x l.first l.value) (Misses l.x l.run) l.fn.store l.store passed.Done;
}
