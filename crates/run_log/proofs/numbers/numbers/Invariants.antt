use Rattle.std.proofs.Common.{length}
use Rattle.run_log.proofs.NumberLists.{Reached}
use Rattle.run_log.proofs.numbers.numbers.Given as goal

abbrev pub invariant-loop-rest : goal.invariant-loop-rest
invariant-loop-rest l = Reached l.text l.found l.rest

abbrev pub decreases-loop-rest : goal.decreases-loop-rest
decreases-loop-rest l = length l.rest
