use Rattle.fzn_model.proofs.Distinct.{DistinctBelow}
use Rattle.fzn_model.proofs.all_different.are_distinct.Given as goal

abbrev pub invariant-loop-i : goal.invariant-loop-i
invariant-loop-i l = DistinctBelow l.terms l.i l.values
