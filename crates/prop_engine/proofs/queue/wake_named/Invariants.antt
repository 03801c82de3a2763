use Rattle.std.proofs.Common.{◌≡◌, length}
use Rattle.prop_engine.proofs.Waking.{WakesTo}
use Rattle.prop_engine.proofs.queue.wake_named.Given as goal

abbrev pub invariant-loop-entry : goal.invariant-loop-entry
invariant-loop-entry l = record {
  length : length l.queue ≡ length l.fn.queue;
  wakes : WakesTo l.but l.readers l.entries l.entry-index l.fn.queue l.queue;
}
