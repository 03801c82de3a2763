-- A text that passes through a buffer on its way to a sink.
use Rattle.std.specs.Prelude.{◌≡◌, ℕ, ◌++◌, List, Result, MatchResult}
use Rattle.std.specs.declared.option.Option.{Option}
use Rattle.std.specs.Io.KnownBytes.{Appends}
use Rattle.cs_base.specs.declared.failed.Failed.{Failed}
use Rattle.cs_base.specs.Causes.{AppendsFront}

-- what the sink shows, and the bytes that are pending
abbrev pub Flow : Type 0
Flow = Option (List ℕ) × List ℕ

-- The text was put behind the pending bytes, and what is no longer pending was written. At Err a part at the front of the
-- pending bytes and the text was written.
unfoldable pub Buffered : Flow → Flow → List ℕ → Result (Unit {0}) Failed → Type 0
Buffered old new text result = MatchResult result (λ _. (gone : List ℕ) × (old.1 ++ text ≡ gone ++ new.1) × Appends old.0 new.0 gone) (λ _. AppendsFront old.0 new.0 (old.1 ++ text))
