use Rattle.std.proofs.Common.{◌≡◌, take}
use Rattle.explorer.proofs.Edges.{Reached}
use Rattle.explorer.proofs.edge.follow.Given as goal

abbrev pub invariant-loop-decision : goal.invariant-loop-decision
invariant-loop-decision l = record {
  saved : l.store.saved ≡ l.initial.store.saved;
  settled : l.store.settled ≡ l.initial.store.settled;
  reached : Reached l.task.model.now (take l.decision-index l.path) l.store.box;
}
