use Rattle.search_core.proofs.Replacing.{NoneFrom, IsHeldBy}
use Rattle.search_core.proofs.tasks.held_place.Given as goal

abbrev pub invariant-loop-left : goal.invariant-loop-left
invariant-loop-left l = NoneFrom (IsHeldBy l.tree l.worker l.path) l.entries l.left

abbrev pub decreases-loop-left : goal.decreases-loop-left
decreases-loop-left l = l.left
