use Rattle.std.proofs.Common.{arith}
use Rattle.std.proofs.lemmas.Int.{ints, clamps}
use Rattle.rest_basic.proofs.lin.sums_of_term.Goals as goal

pub returns-clause-small_low : goal.returns-clause-small_low
returns-clause-small_low g c = omega (arith, ints, clamps, c.min.ensures.value, c.product-low.ensures.small, c.product-high.ensures.small)

pub returns-clause-small_high : goal.returns-clause-small_high
returns-clause-small_high g c = omega (arith, ints, clamps, c.max.ensures.value, c.product-low.ensures.small, c.product-high.ensures.small)
