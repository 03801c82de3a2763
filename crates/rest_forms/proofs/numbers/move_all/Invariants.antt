use Rattle.std.proofs.Common.{take}
use Rattle.rest_forms.specs.Numbers.{AreMoved}
use Rattle.rest_forms.proofs.numbers.move_all.Given as goal

abbrev pub invariant-loop-number : goal.invariant-loop-number
invariant-loop-number l = AreMoved (take l.number-index l.numbers) l.fn.from.keys l.from.keys l.fn.to.keys l.to.keys
