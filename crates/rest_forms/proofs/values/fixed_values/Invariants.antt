use Rattle.std.proofs.Common.{◌≡◌, take, map}
use Rattle.std.specs.Prelude.{filter, not}
use Rattle.fzn_model.specs.Bounds.{term_low, is_open}
use Rattle.rest_forms.proofs.values.fixed_values.Given as goal

abbrev pub invariant-loop-term : goal.invariant-loop-term
invariant-loop-term g l = l.values.items ≡ map (term_low (g.V.BoxView.shape l.view)) (filter (λ t. not (is_open (g.V.BoxView.shape l.view) t)) (take l.term-index l.terms))
