use Rattle.std.proofs.Common.{◌≡◌, length}
use Rattle.mark_set.specs.Marks.{marked_count}
use Rattle.dom_store.specs.Narrowing.{SameButMarks}
use Rattle.prop_engine.specs.Queues.{AreKnown, IsDone}
use Rattle.prop_engine.proofs.queue.drain.Given as goal

abbrev pub invariant-loop-var : goal.invariant-loop-var
invariant-loop-var l = record {
  room : length l.queue ≡ length l.propagators;
  same : SameButMarks l.fn.store l.store;
  known : AreKnown l.before l.propagators l.queue l.store;
  done : IsDone l.but l.propagators l.queue l.store.box;
}

abbrev pub decreases-loop-var : goal.decreases-loop-var
decreases-loop-var l = marked_count l.store.touched
