use Rattle.search_core.proofs.Nodes.{IsAdded}
use Rattle.search_core.proofs.tree.Tree.grow.Given as goal

abbrev pub invariant-loop-decision : goal.invariant-loop-decision
invariant-loop-decision l = IsAdded l.fn.self l.self l.path l.decision-index l.number
