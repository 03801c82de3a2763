use Rattle.prop_engine.specs.declared.event.Event.TheVariants as event
use Rattle.prop_engine.proofs.queue.wake_hearing.Goals as goal

pub wake_list-requires : goal.wake_list-requires
wake_list-requires c = λ j reads. c.requires event.Changed c.args.var j reads
