use Rattle.std.proofs.Common.{take}
use Rattle.brancher.specs.Making.{IsBestOf}
use Rattle.brancher.proofs.best.first_best.Given as goal

abbrev pub invariant-loop-term : goal.invariant-loop-term
invariant-loop-term g l = IsBestOf (g.V.BoxView.shape l.view) l.by (take l.term-index l.terms) l.best
