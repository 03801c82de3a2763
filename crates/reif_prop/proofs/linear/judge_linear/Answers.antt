use Rattle.reif_prop.proofs.Bounding.{different_judged}
use Rattle.reif_prop.proofs.linear.judge_linear.Goals as goal

pub returns-in-Ne : goal.returns-in-Ne
returns-in-Ne c = rw c.in-Ne.is (different_judged c.args.store.now.box c.args.parts.now c.args.r.now c.judge_equal-in-Ne.result c.opposite.result c.opposite.ensures c.judge_equal-in-Ne.ensures)
