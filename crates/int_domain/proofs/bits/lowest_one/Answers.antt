use Rattle.std.proofs.Common.{rules}
use Rattle.std.specs.Int.{w64}
use Rattle.std.proofs.lemmas.Nat.Bits.{bit_at-trailing_zeros}
use Rattle.int_domain.proofs.bits.lowest_one.Goals as goal

pub returns-clause-one : goal.returns-clause-one
returns-clause-one c = (bit_at-trailing_zeros w64 c.args.word c.requires (search rules)).1

pub returns-clause-below : goal.returns-clause-below
returns-clause-below c = (bit_at-trailing_zeros w64 c.args.word c.requires (search rules)).2
