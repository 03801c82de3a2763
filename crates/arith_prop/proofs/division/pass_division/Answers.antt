use Rattle.arith_prop.proofs.Dividing.{loose_passes}
use Rattle.arith_prop.proofs.division.pass_division.Goals as goal

pub returns-in-None : goal.returns-in-None
returns-in-None c = loose_passes c.args.part c.args.a c.args.b c.args.c c.args.store.now c.requires c.arguments.ensures.well_formed c.in-None.ensures.none
