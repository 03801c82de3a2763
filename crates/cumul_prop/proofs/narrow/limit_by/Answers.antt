use Rattle.cumul_prop.proofs.Owing.{all_fit}
use Rattle.cumul_prop.proofs.narrow.limit_by.Goals as goal

pub returns : goal.returns
returns c = all_fit c.args.tasks.now c.args.used.now c.args.capacity c.args.all.now c.args.profile.now c.args.limits.now c.args.store.now c.limit_starts.new.store c.limit_starts.result
    c.requires.ready c.requires.profile c.requires.within c.requires.limits c.limit_starts.ensures
