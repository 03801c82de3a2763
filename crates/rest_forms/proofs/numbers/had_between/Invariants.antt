use Rattle.std.proofs.Common.{◌≡◌, ◌++◌}
use Rattle.std.specs.Prelude.{filter}
use Rattle.rest_forms.specs.Forms.{term_has}
use Rattle.rest_forms.proofs.numbers.had_between.Given as goal

abbrev pub invariant-loop-number : goal.invariant-loop-number
invariant-loop-number g l = l.had.items ++ filter (λ z. term_has (g.V.BoxView.shape l.view) z l.x) l.number-iterator ≡ filter (λ z. term_has (g.V.BoxView.shape l.view) z l.x) l.numbers.keys
