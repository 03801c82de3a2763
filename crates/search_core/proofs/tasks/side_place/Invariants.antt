use Rattle.std.proofs.Common.{[], ◌∷◌, ◌++◌}
use Rattle.search_core.specs.Places.{IsSettledBy}
use Rattle.search_core.proofs.Replacing.{NoneFrom}
use Rattle.search_core.proofs.tasks.side_place.Given as goal

abbrev pub invariant-loop-left : goal.invariant-loop-left
invariant-loop-left l = NoneFrom (IsSettledBy l.tree l.worker (l.path ++ l.cut ∷ [])) l.entries l.left

abbrev pub decreases-loop-left : goal.decreases-loop-left
decreases-loop-left l = l.left
