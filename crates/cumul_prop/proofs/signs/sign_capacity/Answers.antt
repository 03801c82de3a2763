use Rattle.cumul_prop.proofs.Signing.{signed_capacity}
use Rattle.cumul_prop.proofs.signs.sign_capacity.Goals as goal

pub returns : goal.returns
returns c = signed_capacity c.args.tasks.now c.args.used.now c.args.capacity c.args.store.now c.cut_below.new.store c.cut_below.result c.requires c.cut_below.ensures.narrows
