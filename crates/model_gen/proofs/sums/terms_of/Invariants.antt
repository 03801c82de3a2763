use Rattle.std.proofs.Common.{◌≡◌, take}
use Rattle.model_gen.specs.Made.{terms_from}
use Rattle.model_gen.proofs.sums.terms_of.Given as goal

abbrev pub invariant-loop-number : goal.invariant-loop-number
invariant-loop-number l = l.terms.items ≡ terms_from 0 (take l.number-index l.numbers)
