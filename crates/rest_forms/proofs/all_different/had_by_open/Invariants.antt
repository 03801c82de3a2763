use Rattle.std.proofs.Common.{take}
use Rattle.rest_forms.specs.Numbers.{AreParted}
use Rattle.rest_forms.proofs.all_different.had_by_open.Given as goal

abbrev pub invariant-loop-x : goal.invariant-loop-x
invariant-loop-x g l = AreParted (g.V.BoxView.shape l.view) (take l.x-index l.xs) l.fn.numbers.keys l.numbers.keys l.had.keys
