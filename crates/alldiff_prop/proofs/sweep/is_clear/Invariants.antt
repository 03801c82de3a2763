use Rattle.alldiff_prop.specs.Spans.{IsSwept}
use Rattle.alldiff_prop.proofs.sweep.is_clear.Given as goal

abbrev pub invariant-loop-at : goal.invariant-loop-at
invariant-loop-at l = IsSwept l.taken l.low l.spans l.at l.sweep
