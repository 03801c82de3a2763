use Rattle.std.proofs.Common.{◌≡◌, take, map}
use Rattle.rest_global.specs.Projection.{rest_term}
use Rattle.rest_global.proofs.renamed.rest_terms.Given as goal

abbrev pub invariant-loop-term : goal.invariant-loop-term
invariant-loop-term g l = l.renamed.items ≡ map (rest_term (g.V.BoxView.shape l.view)) (take l.term-index l.terms)
