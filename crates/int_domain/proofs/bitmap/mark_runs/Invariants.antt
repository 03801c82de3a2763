use Rattle.std.proofs.Common.{◌≡◌, take}
use Rattle.std.specs.Prelude.{ℤ}
use Rattle.int_domain.specs.Values.{is_in_runs}
use Rattle.int_domain.specs.Bits.{marks, Covers}
use Rattle.int_domain.proofs.bitmap.mark_runs.Given as goal

abbrev pub invariant-loop-run : goal.invariant-loop-run
invariant-loop-run l =
    record {
      base : l.bitmap.base ≡ l.base;
      marked : (v : ℤ) → Covers l.bitmap v v → marks l.bitmap v ≡ is_in_runs (take l.run-index l.runs) v;
    }
