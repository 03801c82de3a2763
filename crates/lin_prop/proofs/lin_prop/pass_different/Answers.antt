use Rattle.lin_prop.proofs.Relating.{different_step}
use Rattle.lin_prop.proofs.lin_prop.pass_different.Goals as goal

pub returns : goal.returns
returns c = different_step c.args.terms.now c.args.r.now c.args.store.now c.separate_sum.new.store c.separate_sum.result c.requires.limits c.separate_sum.ensures
