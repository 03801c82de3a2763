use Rattle.std.proofs.Common.{rules}
use Rattle.lin_prop.proofs.Scaling.{cut_below_at}
use Rattle.lin_prop.proofs.scaled.cut_below_steps.Goals as goal

pub returns : goal.returns
returns c = cut_below_at c.args.term _ _ _ _ _ c.cut_below.ensures.narrows (search rules)
