use Rattle.alldiff_prop.proofs.Sweeping.{swept_all}
use Rattle.alldiff_prop.proofs.sweep.is_clear.Goals as goal

pub returns : goal.returns
returns c = λ is. swept_all c.args.taken.now c.args.low.now c.args.spans.now c.loop-at.at c.loop-at.sweep c.loop-at-test.false c.loop-at.invariant
