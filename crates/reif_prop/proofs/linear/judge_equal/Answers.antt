use Rattle.reif_prop.proofs.Bounding.{equal_shown}
use Rattle.reif_prop.proofs.linear.judge_equal.Goals as goal

pub returns-then-is_exactly : goal.returns-then-is_exactly
returns-then-is_exactly c = equal_shown c.args.store.now.box c.args.parts.now c.args.r.now c.reach_of-reach.result c.reach_of-reach.ensures (c.is_exactly.ensures.0 c.if-is_exactly.true)
