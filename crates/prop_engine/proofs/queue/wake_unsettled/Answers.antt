use Rattle.std.proofs.Common.{arith}
use Rattle.prop_engine.proofs.queue.wake_unsettled.Goals as goal

pub wake_named-requires : goal.wake_named-requires
wake_named-requires c = λ e k j reads. let h = c.requires.read.below e k j reads in omega (arith, h, c.requires.room)
