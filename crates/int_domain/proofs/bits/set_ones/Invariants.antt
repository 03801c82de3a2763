use Rattle.std.proofs.Common.{◌≡◌, ℕ, ◌/◌, ◌<◌, ◌≤◌, length}
use Rattle.int_domain.specs.Bits.{bit_of}
use Rattle.int_domain.proofs.bits.set_ones.Given as goal

abbrev pub invariant-loop-index : goal.invariant-loop-index
invariant-loop-index l =
    record {
      long : length l.words ≡ 16;
      inside : (k : ℕ) → k / 64 < l.index → l.from ≤ k → k < l.end → bit_of l.words k ≡ 1;
      below : (k : ℕ) → k < l.from → bit_of l.words k ≡ bit_of l.initial.words k;
      above : (k : ℕ) → l.end ≤ k → bit_of l.words k ≡ bit_of l.initial.words k;
    }
