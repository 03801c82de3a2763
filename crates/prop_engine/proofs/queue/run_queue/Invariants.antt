use Rattle.std.proofs.Common.{◌≡◌, length}
use Rattle.prop_engine.specs.Fixing.{Lessens, MeetsEach}
use Rattle.prop_engine.specs.Queues.{AreStrong}
use Rattle.prop_engine.proofs.Running.{to_do}
use Rattle.prop_engine.proofs.queue.run_queue.Given as goal

abbrev pub invariant-loop-at : goal.invariant-loop-at
invariant-loop-at l = record {
  same : l.propagators ≡ l.fn.propagators;
  room : length l.queue ≡ length l.fn.propagators;
  lessens : Lessens (MeetsEach l.fn.propagators) l.fn.store l.store;
  strong : AreStrong l.fn.propagators l.queue l.store.box;
}

abbrev pub decreases-loop-at : goal.decreases-loop-at
decreases-loop-at l = to_do (length l.propagators) l.store.box l.queue
