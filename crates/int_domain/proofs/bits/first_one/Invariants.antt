use Rattle.std.proofs.Common.{◌≡◌, ℕ, ◌/◌, ◌<◌, ◌≤◌}
use Rattle.int_domain.specs.Bits.{bit_of}
use Rattle.int_domain.proofs.bits.first_one.Given as goal

abbrev pub invariant-loop-index : goal.invariant-loop-index
invariant-loop-index l = (k : ℕ) → l.from ≤ k → k ≤ l.last → k / 64 < l.index → bit_of l.words k ≡ 0
