use Rattle.int_domain.proofs.Words.{bit_of_and_inside, bit_of_and_outside}
use Rattle.int_domain.proofs.bits.part.Goals as goal

pub returns-clause-inside : goal.returns-clause-inside
returns-clause-inside c = λ k is p q. bit_of_and_inside c.args.words.now c.mask.result k c.args.index is (c.mask.ensures.inside k is p q)

pub returns-clause-below : goal.returns-clause-below
returns-clause-below c = λ k is p. bit_of_and_outside _ c.mask.result k (c.mask.ensures.below k is p)

pub returns-clause-above : goal.returns-clause-above
returns-clause-above c = λ k is p. bit_of_and_outside _ c.mask.result k (c.mask.ensures.above k is p)
