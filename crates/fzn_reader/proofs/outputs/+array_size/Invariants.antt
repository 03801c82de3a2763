use Rattle.std.proofs.Common.{length}
use Rattle.fzn_reader.proofs.outputs.+array_size.Given as goal

abbrev pub decreases-array_size : goal.decreases-array_size
decreases-array_size l = length l.ranges.now
