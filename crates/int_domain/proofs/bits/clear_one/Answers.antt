use Rattle.std.proofs.Common.{arith}
use Rattle.int_domain.proofs.Words.{bit_of_cleared, bit_of_clear_other}
use Rattle.int_domain.proofs.bits.clear_one.Goals as goal

pub returns-clause-cleared : goal.returns-clause-cleared
returns-clause-cleared c = bit_of_cleared c.args.words.now c.args.place (omega arith)

pub returns-clause-others : goal.returns-clause-others
returns-clause-others c = λ k h apart. bit_of_clear_other c.args.words.now c.args.place k (omega arith) apart
