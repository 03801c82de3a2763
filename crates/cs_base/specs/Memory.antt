-- What contracts see a source and a sink in memory as.
use Rattle.std.specs.Prelude.{ℕ, List, Bool, if◌then◌else◌}
use Rattle.cs_base.specs.Causes.{counted}

-- the bytes that are left, the most that one read gives, the numbers of the calls that fail, and two counts
pub record MemoryReads : Type 0 where
  pub left : List ℕ
  pub most : ℕ
  pub fails : List ℕ
  pub calls : ℕ
  pub faults : ℕ

-- after one call more, which failed or not and left these bytes
abbrev pub read_called : MemoryReads → Bool → List ℕ → MemoryReads
read_called s failed left = record { left = left; most = s.most; fails = s.fails; calls = counted s.calls; faults = if failed then counted s.faults else s.faults }

-- the bytes written, the most that it takes in all and at once, the numbers of the writes that fail, and two counts
pub record MemoryWrites : Type 0 where
  pub bytes : List ℕ
  pub room : ℕ
  pub most : ℕ
  pub fails : List ℕ
  pub calls : ℕ
  pub faults : ℕ

-- after one write more, which failed or not and left these bytes written
abbrev pub write_called : MemoryWrites → Bool → List ℕ → MemoryWrites
write_called s failed bytes = record { bytes = bytes; room = s.room; most = s.most; fails = s.fails; calls = counted s.calls; faults = if failed then counted s.faults else s.faults }
