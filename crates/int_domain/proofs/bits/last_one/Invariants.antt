use Rattle.std.proofs.Common.{◌≡◌, ℕ, ◌/◌, ◌≤◌}
use Rattle.int_domain.specs.Bits.{bit_of}
use Rattle.int_domain.proofs.bits.last_one.Given as goal

abbrev pub invariant-loop-index : goal.invariant-loop-index
invariant-loop-index l = (k : ℕ) → l.first ≤ k → k ≤ l.to → l.index ≤ k / 64 → bit_of l.words k ≡ 0
