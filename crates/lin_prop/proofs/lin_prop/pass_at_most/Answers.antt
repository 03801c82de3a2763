use Rattle.lin_prop.proofs.Relating.{at_most_step}
use Rattle.lin_prop.proofs.lin_prop.pass_at_most.Goals as goal

pub returns : goal.returns
returns c = at_most_step c.args.terms.now c.args.r.now c.args.store.now c.cap_sum.new.store c.cap_sum.result c.requires.limits c.cap_sum.ensures
