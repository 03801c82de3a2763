use Rattle.alldiff_prop.specs.Fulls.{AreFullsTo}
use Rattle.alldiff_prop.proofs.fulls.put_fulls.Given as goal

abbrev pub invariant-loop-place : goal.invariant-loop-place
invariant-loop-place l = AreFullsTo l.taken l.low l.highs l.fulls.items l.place
