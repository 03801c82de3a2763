use Rattle.rest_global.proofs.ConstraintsLeft.{AreCountedBefore}
use Rattle.rest_global.proofs.labelled.left_of.Given as goal

abbrev pub invariant-loop-at : goal.invariant-loop-at
invariant-loop-at g l = AreCountedBefore (g.V.BoxView.shape l.view) l.all l.at l.words l.limit l.left
