-- Texts written one after another.
use Rattle.std.specs.Prelude.{ℕ, List, Result}
use Rattle.std.specs.declared.option.Option.{Option}
use Rattle.cs_base.specs.declared.failed.Failed.{Failed}
use Rattle.cs_base.specs.Causes.{AppendsPart}

-- at Ok all of the text was appended, at Err a part at its front
unfoldable pub Wrote : Option (List ℕ) → Option (List ℕ) → List ℕ → Result (Unit {0}) Failed → Type 0
Wrote old new text result = AppendsPart old new text result
