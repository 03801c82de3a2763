use Rattle.rest_forms.specs.Numbers.{RiseUpTo}
use Rattle.rest_forms.proofs.rising.are_rising.Given as goal

abbrev pub invariant-loop-at : goal.invariant-loop-at
invariant-loop-at l = RiseUpTo l.at l.numbers
