use Rattle.std.proofs.Common.{◌≡◌, take}
use Rattle.std.specs.Prelude.{filter}
use Rattle.rest_forms.specs.Numbers.{some_has}
use Rattle.rest_forms.proofs.rising.had_of.Given as goal

abbrev pub invariant-loop-number : goal.invariant-loop-number
invariant-loop-number g l = l.had.items ≡ filter (some_has (g.V.BoxView.shape l.view) l.terms) (take l.number-index l.numbers)
