use Rattle.std.proofs.Common.{rules}
use Rattle.lin_prop.proofs.Scaling.{cut_above_at}
use Rattle.lin_prop.proofs.scaled.cut_above_steps.Goals as goal

pub returns : goal.returns
returns c = cut_above_at c.args.term _ _ _ _ _ c.cut_above.ensures.narrows (search rules)
