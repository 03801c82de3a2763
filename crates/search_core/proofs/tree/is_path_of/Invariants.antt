use Rattle.search_core.proofs.tree.is_path_of.Given as goal
use Rattle.search_core.proofs.Nodes.{IsSoFar}

abbrev pub invariant-loop-left : goal.invariant-loop-left
invariant-loop-left l = IsSoFar l.nodes l.path l.fn.number l.number l.left

abbrev pub decreases-loop-left : goal.decreases-loop-left
decreases-loop-left l = l.left
