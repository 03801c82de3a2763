use Rattle.std.proofs.Common.{arith}
use Rattle.prop_engine.specs.declared.event.Event.TheVariants as event
use Rattle.prop_engine.proofs.queue.wake_readers.Goals as goal

pub wake_list-requires : goal.wake_list-requires
wake_list-requires c = λ j reads. c.requires event.Changed c.args.var j reads

pub wake_list-requires-2 : goal.wake_list-requires-2
wake_list-requires-2 c = λ j reads. let h = c.requires event.Fixed c.args.var j reads in omega (arith, h, c.wake_list.ensures.length)
