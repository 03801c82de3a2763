use Rattle.explorer.proofs.Leaving.{able_started}
use Rattle.explorer.proofs.edge.enter.Goals as goal

pub returns-clause-able : goal.returns-clause-able
returns-clause-able c = able_started c.args.task.now.model.now c.args.bench.now _ c.requires c.in_ok-push_level.ensures.ok
