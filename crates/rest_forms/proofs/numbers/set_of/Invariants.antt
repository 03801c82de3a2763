use Rattle.std.proofs.Common.{◌++◌, drop}
use Rattle.rest_forms.specs.Numbers.{HasSame}
use Rattle.rest_forms.proofs.numbers.set_of.Given as goal

abbrev pub invariant-loop-number : goal.invariant-loop-number
invariant-loop-number l = HasSame l.list (drop l.number-index l.list ++ l.numbers.keys)
