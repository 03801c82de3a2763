use Rattle.std.proofs.Common.{length}
use Rattle.run_log.proofs.LogTexts.{Reached}
use Rattle.run_log.proofs.reading.read_log.Given as goal

abbrev pub invariant-loop-rest : goal.invariant-loop-rest
invariant-loop-rest l = Reached l.bytes l.entries l.rest

abbrev pub decreases-loop-rest : goal.decreases-loop-rest
decreases-loop-rest l = length l.rest
