use Rattle.reif_prop.specs.Values.{GapsAreFree}
use Rattle.reif_prop.proofs.values.are_inside.Given as goal

abbrev pub invariant-loop-place : goal.invariant-loop-place
invariant-loop-place l = GapsAreFree l.store.box l.x l.set l.place
