-- What reading a source to its end takes.
use Rattle.std.specs.Prelude.{◌≡◌, ℕ, ◌+◌, ◌≤◌, List, length, Result, Ok, Err}
use Rattle.std.specs.declared.option.Option.{Option}
use Rattle.std.specs.Io.KnownBytes.{Consumes, IsAtEnd}
use Rattle.cs_base.specs.declared.reading.Whole.{Whole}
use Rattle.cs_base.specs.declared.reading.Whole.TheVariants as whole
use Rattle.cs_base.specs.declared.reading.ReadFault.{ReadFault}

-- The bytes are all that were left, at most the limit; or the limit and one more were taken; or an error came after at
-- most the limit.
abbrev pub IsReading : ℕ → Option (List ℕ) → Option (List ℕ) → Result Whole ReadFault → Type 0
IsReading limit old new (Ok (whole.Bytes v)) = Consumes old new v.items × IsAtEnd new × (length v.items ≤ limit)
IsReading limit old new (Ok whole.More) = (bytes : List ℕ) × Consumes old new bytes × (length bytes ≡ limit + 1)
IsReading limit old new (Err e) = (bytes : List ℕ) × Consumes old new bytes × (length bytes ≤ limit)
