use Rattle.rest_global.specs.Making.{AreNumbered}
use Rattle.rest_global.proofs.numbering.numbering_of.Given as goal

abbrev pub invariant-loop-var : goal.invariant-loop-var
invariant-loop-var g l = AreNumbered (g.V.BoxView.shape l.view) l.var l.variables.items l.places.items
