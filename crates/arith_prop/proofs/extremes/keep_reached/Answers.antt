use Rattle.arith_prop.proofs.Choosing.{some_reached}
use Rattle.arith_prop.proofs.extremes.keep_reached.Goals as goal

pub returns : goal.returns
returns c = some_reached c.args.extreme c.args.m c.furthest-best.result c.args.terms.now c.args.store.now c.limit.new.store c.limit.result c.requires.members c.furthest-best.ensures.bound c.limit.ensures
