use Rattle.std.proofs.Common.{◌≡◌, ◌*◌, ◌≤◌}
use Rattle.int_domain.proofs.Words.{total, masked}
use Rattle.int_domain.proofs.bits.count_ones_between.Given as goal

abbrev pub invariant-loop-index : goal.invariant-loop-index
invariant-loop-index l =
    record {
      count : l.count ≡ total (masked l.words l.from l.end) 0 (64 * l.index);
      small : l.count ≤ 64 * l.index;
    }
