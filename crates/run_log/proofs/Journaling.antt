-- What a journal has noted after a line was written, or not.
use Rattle.std.proofs.Common.{◌≡◌, ℕ, List, [], ◌∷◌, Bool, false, subst, sym, append-nil}
use Rattle.std.specs.Prelude.{Ok, Err, Result, is_err}
use Rattle.std.specs.declared.option.Option.{Option}
use Rattle.std.specs.Io.KnownBytes.{Appends}
use Rattle.cs_base.specs.declared.failed.Failed.{Failed}
use Rattle.cs_base.specs.Causes.{HasCause, AppendsPart, AppendsFront}
use Rattle.run_log.specs.Texts.{Line, entry_of, entry_text, ended, log_text}
use Rattle.run_log.specs.Journals.{Notes}

one_line : (l : Line) → ended (entry_text (entry_of l)) ≡ log_text (l ∷ [])
unfolding log_text
one_line l = sym (append-nil (ended (entry_text (entry_of l))))

-- a line was written as far as the result says
pub notes_line : (a b : Option (List ℕ)) (m n : ℕ) (was now : Bool) (l : Line) (result : Result (Unit {0}) Failed) → was ≡ false → is_err result ≡ now → AppendsPart a b (ended (entry_text (entry_of l))) result → HasCause m n result → Notes (record { text = a; faults = m; failed = was }) (record { text = b; faults = n; failed = now }) (l ∷ [])
notes_line a b m n was now l (Ok y) old new p cause = record {
  later = cause.later;
  whole = λ h. (old, cause.kept, subst (λ (t : List ℕ). Appends a b t) (one_line l) p);
  part = λ h. absurd cc;
  stays = λ h. absurd cc;
}
notes_line a b m n was now l (Err e) old new p cause = record {
  later = cause.later;
  whole = λ h. absurd cc;
  part = λ h k. (cause.failed, subst (λ (t : List ℕ). AppendsFront a b t) (one_line l) p);
  stays = λ h. absurd cc;
}
