-- What a journal has noted.
use Rattle.std.specs.Prelude.{◌≡◌, ℕ, ◌≤◌, Bool, true, false, List}
use Rattle.std.specs.declared.option.Option.{Option}
use Rattle.std.specs.Io.KnownBytes.{Appends}
use Rattle.cs_base.specs.Causes.{Rose, AppendsFront}
use Rattle.run_log.specs.Texts.{Line, log_text}

-- the text that was noted, where it is told; how many writes failed; and whether one did, behind which nothing is noted
pub record Noted : Type 0 where
  pub text : Option (List ℕ)
  pub faults : ℕ
  pub failed : Bool

-- The text of these lines was appended; where a write failed, a part at its front, and nothing where one had failed before.
pub record Notes (old new : Noted) (lines : List Line) : Type 0 where
  pub later : old.faults ≤ new.faults
  pub whole : new.failed ≡ false → (old.failed ≡ false) × (new.faults ≡ old.faults) × Appends old.text new.text (log_text lines)
  pub part : new.failed ≡ true → old.failed ≡ false → Rose old.faults new.faults × AppendsFront old.text new.text (log_text lines)
  pub stays : old.failed ≡ true → new ≡ old
