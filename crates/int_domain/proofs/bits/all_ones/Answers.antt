use Rattle.int_domain.proofs.Words.{bit_of_all_ones}
use Rattle.int_domain.proofs.bits.all_ones.Goals as goal

pub returns : goal.returns
returns c = λ k h. bit_of_all_ones k h
