use Rattle.std.proofs.Common.{◌≡◌, take, map}
use Rattle.std.specs.Prelude.{filter}
use Rattle.rest_basic.specs.Gathered.{meets, cut}
use Rattle.rest_basic.proofs.runs.clipped.Given as goal

abbrev pub invariant-loop-run : goal.invariant-loop-run
invariant-loop-run l = l.left ≡ map (cut l.bounds.0 l.bounds.1) (filter (meets l.bounds.0 l.bounds.1) (take l.run-index l.set))
