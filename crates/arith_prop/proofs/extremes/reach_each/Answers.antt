use Rattle.arith_prop.proofs.Choosing.{each_reached}
use Rattle.arith_prop.proofs.extremes.reach_each.Goals as goal

pub returns : goal.returns
returns c = each_reached c.args.extreme c.opposite-other.result c.args.m c.furthest-best.result c.args.terms.now c.args.store.now c.limit.new.store c.limit.result c.opposite-other.ensures c.furthest-best.ensures.inside c.furthest-best.ensures.bound c.limit.ensures
