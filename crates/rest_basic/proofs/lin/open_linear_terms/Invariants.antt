use Rattle.std.proofs.Common.{◌≡◌, take}
use Rattle.std.specs.Prelude.{filter, All}
use Rattle.fzn_model.specs.Limits.{IsValue}
use Rattle.rest_basic.specs.Forms.{is_open_linear_term}
use Rattle.rest_basic.proofs.lin.open_linear_terms.Given as goal

abbrev pub invariant-loop-term : goal.invariant-loop-term
invariant-loop-term g l = record {
  value : l.left ≡ filter (is_open_linear_term (g.V.BoxView.shape l.view)) (take l.term-index l.terms);
  factors : All (λ t. IsValue t.0) l.left;
}
