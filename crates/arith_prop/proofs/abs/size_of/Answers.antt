use Rattle.std.proofs.Common.{arith}
use Rattle.std.proofs.lemmas.Int.{ints, clamps}
use Rattle.arith_prop.specs.Sizes.{size_of}
use Rattle.arith_prop.proofs.abs.size_of.Goals as goal

pub returns-in-Least : goal.returns-in-Least
unfolding size_of
returns-in-Least c = rw c.in-Least.is (omega (arith, ints, clamps, c.requires.0, c.requires.1))

pub returns-in-Greatest : goal.returns-in-Greatest
unfolding size_of
returns-in-Greatest c = rw c.in-Greatest.is (omega (arith, ints, clamps, c.requires.0, c.requires.1))
