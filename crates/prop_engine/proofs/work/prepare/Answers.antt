use Rattle.prop_engine.proofs.Working.{ready_latest}
use Rattle.prop_engine.proofs.work.prepare.Goals as goal

pub wake_unsettled-requires-clause-ready : goal.wake_unsettled-requires-clause-ready
wake_unsettled-requires-clause-ready c = ready_latest c.args.propagators.now c.args.goal c.args.below.now c.args.store.now c.cut_goal.new.store c.cut_goal.ensures.prunes c.requires.ready
