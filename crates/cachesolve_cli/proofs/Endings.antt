-- What a status says of how a run ended.
use Rattle.std.proofs.Common.{◌≡◌, ℕ, List, inl, inr, refl, sym, subst, ◌∙◌}
use Rattle.std.specs.Prelude.{Some, None, Ok, Err, ◌⊎◌, ⊤}
use Rattle.std.specs.declared.option.Option.{Option}
use Rattle.std.specs.Io.KnownBytes.{Appends, Keeps}
use denote.Ref.{Bor}
use Rattle.cs_base.specs.Causes.{Rose, AppendsFront}
use Rattle.cs_base.specs.Chosen.{Chose}
use Rattle.fzn_model.specs.Parts.{Parts}
use Rattle.fzn_reader.specs.Reading.{reads}
use Rattle.fzn_reader.specs.declared.refused.Refused.{Refused}
use Rattle.incumbent_board.specs.declared.why.Why.TheVariants as why
use Rattle.explorer.specs.declared.meter.Meter.{Meter}
use Rattle.command_line.specs.Asked.{Asked}
use Rattle.cachesolve_cli.specs.declared.ending.Ending.{Ending}
use Rattle.cachesolve_cli.specs.declared.ending.Ending.TheVariants as ending
use Rattle.cachesolve_cli.specs.Ways.{status_of, message_of, EndsOver}
use Rattle.cachesolve_cli.specs.Stages.{EndsRun, EndsAt, Says}
use Rattle.cachesolve_cli.specs.Headline.{OverModel, IsMadeOr, IsModelBy, IsModelFile, IsRefusedFile, IsModelRun, IsRefusedRun, IsModelStatus, IsRefusalStatus, IsDecidedRun, IsCutRun, IsBudgetRun, IsMemoryRun, ChoseFile, IsTold}

-- what is read isn't refused
ok_err : {T E : Type 0} {x : T} {y : E} → Ok x ≡ Err y → ⊥
ok_err e = absurd (cc)

-- ---- which way to end a status is of

is_decided : (e : Ending) (status : ℕ) → status ≡ status_of e → status ≡ 0 → e ≡ ending.Decided
is_decided ending.Decided status h z = refl
is_decided (ending.Undecided why.Budget) status h z = absurd (cc)
is_decided (ending.Undecided why.Memory) status h z = absurd (cc)
is_decided ending.WrongWords status h z = absurd (cc)
is_decided ending.NoMemory status h z = absurd (cc)
is_decided (ending.Refused r token) status h z = absurd (cc)
is_decided ending.ReadFailed status h z = absurd (cc)
is_decided ending.WriteFailed status h z = absurd (cc)

is_wrong_words : (e : Ending) (status : ℕ) → status ≡ status_of e → status ≡ 2 → e ≡ ending.WrongWords
is_wrong_words ending.Decided status h z = absurd (cc)
is_wrong_words (ending.Undecided why.Budget) status h z = absurd (cc)
is_wrong_words (ending.Undecided why.Memory) status h z = absurd (cc)
is_wrong_words ending.WrongWords status h z = refl
is_wrong_words ending.NoMemory status h z = absurd (cc)
is_wrong_words (ending.Refused r token) status h z = absurd (cc)
is_wrong_words ending.ReadFailed status h z = absurd (cc)
is_wrong_words ending.WriteFailed status h z = absurd (cc)

is_budget_spent : (e : Ending) (status : ℕ) → status ≡ status_of e → status ≡ 3 → e ≡ ending.Undecided why.Budget
is_budget_spent ending.Decided status h z = absurd (cc)
is_budget_spent (ending.Undecided why.Budget) status h z = refl
is_budget_spent (ending.Undecided why.Memory) status h z = absurd (cc)
is_budget_spent ending.WrongWords status h z = absurd (cc)
is_budget_spent ending.NoMemory status h z = absurd (cc)
is_budget_spent (ending.Refused r token) status h z = absurd (cc)
is_budget_spent ending.ReadFailed status h z = absurd (cc)
is_budget_spent ending.WriteFailed status h z = absurd (cc)

is_read_failed : (e : Ending) (status : ℕ) → status ≡ status_of e → status ≡ 6 → e ≡ ending.ReadFailed
is_read_failed ending.Decided status h z = absurd (cc)
is_read_failed (ending.Undecided why.Budget) status h z = absurd (cc)
is_read_failed (ending.Undecided why.Memory) status h z = absurd (cc)
is_read_failed ending.WrongWords status h z = absurd (cc)
is_read_failed ending.NoMemory status h z = absurd (cc)
is_read_failed (ending.Refused r token) status h z = absurd (cc)
is_read_failed ending.ReadFailed status h z = refl
is_read_failed ending.WriteFailed status h z = absurd (cc)

is_write_failed : (e : Ending) (status : ℕ) → status ≡ status_of e → status ≡ 7 → e ≡ ending.WriteFailed
is_write_failed ending.Decided status h z = absurd (cc)
is_write_failed (ending.Undecided why.Budget) status h z = absurd (cc)
is_write_failed (ending.Undecided why.Memory) status h z = absurd (cc)
is_write_failed ending.WrongWords status h z = absurd (cc)
is_write_failed ending.NoMemory status h z = absurd (cc)
is_write_failed (ending.Refused r token) status h z = absurd (cc)
is_write_failed ending.ReadFailed status h z = absurd (cc)
is_write_failed ending.WriteFailed status h z = refl

-- ---- what stands at a status

pub decided : (line : Option Asked) (left : Option (List ℕ)) (chosen : Option (Option (List ℕ))) (s t : ℕ) (b n : Meter) (old new : Option (List ℕ)) (u v : ℕ) (eo en : Option (List ℕ)) (f g status : ℕ) → EndsAt line left chosen s t b n old new u v eo en f g status → status ≡ 0 → IsDecidedRun line left chosen b n old new
decided line left chosen s t b n old new u v eo en f g status (e, is, so, says) z = (subst (λ (x : Ending). EndsRun line left chosen s t b n old new u v x) (is_decided e status is z) so).0

pub budget : (line : Option Asked) (left : Option (List ℕ)) (chosen : Option (Option (List ℕ))) (s t : ℕ) (b n : Meter) (old new : Option (List ℕ)) (u v : ℕ) (eo en : Option (List ℕ)) (f g status : ℕ) → EndsAt line left chosen s t b n old new u v eo en f g status → status ≡ 3 → IsBudgetRun line left chosen b n old new
budget line left chosen s t b n old new u v eo en f g status (e, is, so, says) z = (subst (λ (x : Ending). EndsRun line left chosen s t b n old new u v x) (is_budget_spent e status is z) so).0

pub words : (line : Option Asked) (left : Option (List ℕ)) (chosen : Option (Option (List ℕ))) (s t : ℕ) (b n : Meter) (old new : Option (List ℕ)) (u v : ℕ) (eo en : Option (List ℕ)) (f g status : ℕ) → EndsAt line left chosen s t b n old new u v eo en f g status → status ≡ 2 → line ≡ None
words line left chosen s t b n old new u v eo en f g status (e, is, so, says) z = (subst (λ (x : Ending). EndsRun line left chosen s t b n old new u v x) (is_wrong_words e status is z) so).0

pub read : (line : Option Asked) (left : Option (List ℕ)) (chosen : Option (Option (List ℕ))) (s t : ℕ) (b n : Meter) (old new : Option (List ℕ)) (u v : ℕ) (eo en : Option (List ℕ)) (f g status : ℕ) → EndsAt line left chosen s t b n old new u v eo en f g status → status ≡ 6 → Rose s t
read line left chosen s t b n old new u v eo en f g status (e, is, so, says) z = (subst (λ (x : Ending). EndsRun line left chosen s t b n old new u v x) (is_read_failed e status is z) so).2

pub write : (line : Option Asked) (left : Option (List ℕ)) (chosen : Option (Option (List ℕ))) (s t : ℕ) (b n : Meter) (old new : Option (List ℕ)) (u v : ℕ) (eo en : Option (List ℕ)) (f g status : ℕ) → EndsAt line left chosen s t b n old new u v eo en f g status → status ≡ 7 → Rose u v
write line left chosen s t b n old new u v eo en f g status (e, is, so, says) z = (subst (λ (x : Ending). EndsRun line left chosen s t b n old new u v x) (is_write_failed e status is z) so).2

pub cut : (line : Option Asked) (left : Option (List ℕ)) (chosen : Option (Option (List ℕ))) (s t : ℕ) (b n : Meter) (old new : Option (List ℕ)) (u v : ℕ) (eo en : Option (List ℕ)) (f g status : ℕ) → EndsAt line left chosen s t b n old new u v eo en f g status → status ≡ 7 → IsCutRun line left chosen b n old new
cut line left chosen s t b n old new u v eo en f g status (e, is, so, says) z = (subst (λ (x : Ending). EndsRun line left chosen s t b n old new u v x) (is_write_failed e status is z) so).0

pub memory : (line : Option Asked) (left : Option (List ℕ)) (chosen : Option (Option (List ℕ))) (s t : ℕ) (b n : Meter) (old new : Option (List ℕ)) (u v : ℕ) (eo en : Option (List ℕ)) (f g status : ℕ) → EndsAt line left chosen s t b n old new u v eo en f g status → status ≡ 4 → IsMemoryRun line left chosen b n old new
memory line left chosen s t b n old new u v eo en f g status (ending.Decided, is, so, says) z = absurd (cc)
memory line left chosen s t b n old new u v eo en f g status (ending.Undecided why.Budget, is, so, says) z = absurd (cc)
memory line left chosen s t b n old new u v eo en f g status (ending.Undecided why.Memory, is, so, says) z = inr so.0
memory line left chosen s t b n old new u v eo en f g status (ending.WrongWords, is, so, says) z = absurd (cc)
memory line left chosen s t b n old new u v eo en f g status (ending.NoMemory, is, so, says) z = inl so.0
memory line left chosen s t b n old new u v eo en f g status (ending.Refused r token, is, so, says) z = absurd (cc)
memory line left chosen s t b n old new u v eo en f g status (ending.ReadFailed, is, so, says) z = absurd (cc)
memory line left chosen s t b n old new u v eo en f g status (ending.WriteFailed, is, so, says) z = absurd (cc)

pub file : (line : Option Asked) (left : Option (List ℕ)) (chosen : Option (Option (List ℕ))) (s t : ℕ) (b n : Meter) (old new : Option (List ℕ)) (u v : ℕ) (eo en : Option (List ℕ)) (f g status : ℕ) → EndsAt line left chosen s t b n old new u v eo en f g status → status ≡ 5 → ChoseFile line chosen
file line left chosen s t b n old new u v eo en f g status (ending.Decided, is, so, says) z = absurd (cc)
file line left chosen s t b n old new u v eo en f g status (ending.Undecided why.Budget, is, so, says) z = absurd (cc)
file line left chosen s t b n old new u v eo en f g status (ending.Undecided why.Memory, is, so, says) z = absurd (cc)
file line left chosen s t b n old new u v eo en f g status (ending.WrongWords, is, so, says) z = absurd (cc)
file line left chosen s t b n old new u v eo en f g status (ending.NoMemory, is, so, says) z = absurd (cc)
file line left chosen s t b n old new u v eo en f g status (ending.Refused r token, is, so, says) z = so.0
file line left chosen s t b n old new u v eo en f g status (ending.ReadFailed, is, so, says) z = absurd (cc)
file line left chosen s t b n old new u v eo en f g status (ending.WriteFailed, is, so, says) z = absurd (cc)

pub read_kept : (line : Option Asked) (left : Option (List ℕ)) (chosen : Option (Option (List ℕ))) (s t : ℕ) (b n : Meter) (old new : Option (List ℕ)) (u v : ℕ) (eo en : Option (List ℕ)) (f g status : ℕ) → EndsAt line left chosen s t b n old new u v eo en f g status → (status ≡ 6 → ⊥) → t ≡ s
read_kept line left chosen s t b n old new u v eo en f g status (ending.Decided, is, so, says) z = so.1
read_kept line left chosen s t b n old new u v eo en f g status (ending.Undecided why.Budget, is, so, says) z = so.1
read_kept line left chosen s t b n old new u v eo en f g status (ending.Undecided why.Memory, is, so, says) z = so.1
read_kept line left chosen s t b n old new u v eo en f g status (ending.WrongWords, is, so, says) z = so.2
read_kept line left chosen s t b n old new u v eo en f g status (ending.NoMemory, is, so, says) z = so.1
read_kept line left chosen s t b n old new u v eo en f g status (ending.Refused r token, is, so, says) z = so.3
read_kept line left chosen s t b n old new u v eo en f g status (ending.ReadFailed, is, so, says) z = absurd (z is)
read_kept line left chosen s t b n old new u v eo en f g status (ending.WriteFailed, is, so, says) z = so.1

pub write_kept : (line : Option Asked) (left : Option (List ℕ)) (chosen : Option (Option (List ℕ))) (s t : ℕ) (b n : Meter) (old new : Option (List ℕ)) (u v : ℕ) (eo en : Option (List ℕ)) (f g status : ℕ) → EndsAt line left chosen s t b n old new u v eo en f g status → (status ≡ 7 → ⊥) → v ≡ u
write_kept line left chosen s t b n old new u v eo en f g status (ending.Decided, is, so, says) z = so.2
write_kept line left chosen s t b n old new u v eo en f g status (ending.Undecided why.Budget, is, so, says) z = so.2
write_kept line left chosen s t b n old new u v eo en f g status (ending.Undecided why.Memory, is, so, says) z = so.2
write_kept line left chosen s t b n old new u v eo en f g status (ending.WrongWords, is, so, says) z = so.3
write_kept line left chosen s t b n old new u v eo en f g status (ending.NoMemory, is, so, says) z = so.2
write_kept line left chosen s t b n old new u v eo en f g status (ending.Refused r token, is, so, says) z = so.4
write_kept line left chosen s t b n old new u v eo en f g status (ending.ReadFailed, is, so, says) z = so.3
write_kept line left chosen s t b n old new u v eo en f g status (ending.WriteFailed, is, so, says) z = absurd (z is)

-- statuses 2, 5 and 6 are of ways without a word on the output
pub silent : (line : Option Asked) (left : Option (List ℕ)) (chosen : Option (Option (List ℕ))) (s t : ℕ) (b n : Meter) (old new : Option (List ℕ)) (u v : ℕ) (eo en : Option (List ℕ)) (f g status : ℕ) → EndsAt line left chosen s t b n old new u v eo en f g status → (status ≡ 2) ⊎ (status ≡ 5) ⊎ (status ≡ 6) → Keeps old new
silent line left chosen s t b n old new u v eo en f g status (ending.Decided, is, so, says) (inl z) = absurd (cc)
silent line left chosen s t b n old new u v eo en f g status (ending.Decided, is, so, says) (inr (inl z)) = absurd (cc)
silent line left chosen s t b n old new u v eo en f g status (ending.Decided, is, so, says) (inr (inr z)) = absurd (cc)
silent line left chosen s t b n old new u v eo en f g status (ending.Undecided why.Budget, is, so, says) (inl z) = absurd (cc)
silent line left chosen s t b n old new u v eo en f g status (ending.Undecided why.Budget, is, so, says) (inr (inl z)) = absurd (cc)
silent line left chosen s t b n old new u v eo en f g status (ending.Undecided why.Budget, is, so, says) (inr (inr z)) = absurd (cc)
silent line left chosen s t b n old new u v eo en f g status (ending.Undecided why.Memory, is, so, says) (inl z) = absurd (cc)
silent line left chosen s t b n old new u v eo en f g status (ending.Undecided why.Memory, is, so, says) (inr (inl z)) = absurd (cc)
silent line left chosen s t b n old new u v eo en f g status (ending.Undecided why.Memory, is, so, says) (inr (inr z)) = absurd (cc)
silent line left chosen s t b n old new u v eo en f g status (ending.WrongWords, is, so, says) z = so.1
silent line left chosen s t b n old new u v eo en f g status (ending.NoMemory, is, so, says) z = so.0
silent line left chosen s t b n old new u v eo en f g status (ending.Refused r token, is, so, says) z = so.2
silent line left chosen s t b n old new u v eo en f g status (ending.ReadFailed, is, so, says) z = so.1
silent line left chosen s t b n old new u v eo en f g status (ending.WriteFailed, is, so, says) (inl z) = absurd (cc)
silent line left chosen s t b n old new u v eo en f g status (ending.WriteFailed, is, so, says) (inr (inl z)) = absurd (cc)
silent line left chosen s t b n old new u v eo en f g status (ending.WriteFailed, is, so, says) (inr (inr z)) = absurd (cc)

-- without good words there is no model
pub refused_words : (line : Option Asked) (left : Option (List ℕ)) (chosen : Option (Option (List ℕ))) (s t : ℕ) (b n : Meter) (old new : Option (List ℕ)) (u v : ℕ) (eo en : Option (List ℕ)) (f g status : ℕ) → EndsAt line left chosen s t b n old new u v eo en f g status → line ≡ None → (status ≡ 2) ⊎ (status ≡ 4)
refused_words (Some a) left chosen s t b n old new u v eo en f g status at z = absurd (cc)
refused_words None left chosen s t b n old new u v eo en f g status (ending.Decided, is, so, says) z = absurd so.0
refused_words None left chosen s t b n old new u v eo en f g status (ending.Undecided why.Budget, is, so, says) z = absurd so.0
refused_words None left chosen s t b n old new u v eo en f g status (ending.Undecided why.Memory, is, so, says) z = absurd so.0
refused_words None left chosen s t b n old new u v eo en f g status (ending.WrongWords, is, so, says) z = inl is
refused_words None left chosen s t b n old new u v eo en f g status (ending.NoMemory, is, so, says) z = inr is
refused_words None left chosen s t b n old new u v eo en f g status (ending.Refused r token, is, so, says) z = absurd so.0
refused_words None left chosen s t b n old new u v eo en f g status (ending.ReadFailed, is, so, says) z = absurd so.0
refused_words None left chosen s t b n old new u v eo en f g status (ending.WriteFailed, is, so, says) z = absurd so.0

-- a file that is read isn't a model as well as refused
read_once : (left : Option (List ℕ)) (r : Refused) (token : Bor (List ℕ)) → IsModelFile left → EndsOver left (ending.Refused r token) → ⊥
read_once None r token h p = h
read_once (Some bytes) r token h p = ok_err (sym h.1 ∙ p.refused)

file_read : (make : Option (List ℕ × ℕ)) (P Q : Type 0) → IsMadeOr make P ⊥ → IsMadeOr make Q ⊤ → Q
file_read None P Q h q = q
file_read (Some x) P Q h q = absurd h

no_model_by : (make : Option (List ℕ × ℕ)) (file : Option (List ℕ)) (left : Option (List ℕ)) (chosen : Option (Option (List ℕ))) (m : Parts) → IsMadeOr make (IsRefusedFile left) ⊥ → IsModelBy make file left chosen m → ⊥
no_model_by (Some x) file left chosen m h by = h
no_model_by None file None chosen m h by = h
no_model_by None file (Some bytes) chosen m h by = ok_err (sym by.0 ∙ h.1)

-- no run is over a model where the file is refused
no_model : (P : Asked → Parts → Type 0) (line : Option Asked) (left : Option (List ℕ)) (chosen : Option (Option (List ℕ))) → IsRefusedRun line left → OverModel P line left chosen → ⊥
no_model P None left chosen h over = h
no_model P (Some a) left chosen h (m, by, so) = no_model_by a.make a.file left chosen m h by

refused_with : (line : Option Asked) (left : Option (List ℕ)) (chosen : Option (Option (List ℕ))) (r : Refused) (token : Bor (List ℕ)) → IsModelRun line left → ChoseFile line chosen → EndsOver left (ending.Refused r token) → ⊥
refused_with None left chosen r token h c over = h
refused_with (Some a) left chosen r token h c over = read_once left r token (file_read a.make (Chose chosen a.file) (IsModelFile left) c h) over

no_words : (line : Option Asked) (left : Option (List ℕ)) → line ≡ None → IsModelRun line left → ⊥
no_words None left e h = h
no_words (Some a) left e h = absurd (cc)

no_file : (line : Option Asked) (left : Option (List ℕ)) → line ≡ None → IsRefusedRun line left → ⊥
no_file None left e h = h
no_file (Some a) left e h = absurd (cc)

pub model : (line : Option Asked) (left : Option (List ℕ)) (chosen : Option (Option (List ℕ))) (s t : ℕ) (b n : Meter) (old new : Option (List ℕ)) (u v : ℕ) (eo en : Option (List ℕ)) (f g status : ℕ) → EndsAt line left chosen s t b n old new u v eo en f g status → IsModelRun line left → IsModelStatus s t u v status
model line left chosen s t b n old new u v eo en f g status (ending.Decided, is, so, says) z = inl is
model line left chosen s t b n old new u v eo en f g status (ending.Undecided why.Budget, is, so, says) z = inr (inl is)
model line left chosen s t b n old new u v eo en f g status (ending.Undecided why.Memory, is, so, says) z = inr (inr (inl is))
model line left chosen s t b n old new u v eo en f g status (ending.WrongWords, is, so, says) z = absurd (no_words line left so.0 z)
model line left chosen s t b n old new u v eo en f g status (ending.NoMemory, is, so, says) z = inr (inr (inl is))
model line left chosen s t b n old new u v eo en f g status (ending.Refused r token, is, so, says) z = absurd (refused_with line left chosen r token z so.0 so.1)
model line left chosen s t b n old new u v eo en f g status (ending.ReadFailed, is, so, says) z = inr (inr (inr (inl (is, so.2))))
model line left chosen s t b n old new u v eo en f g status (ending.WriteFailed, is, so, says) z = inr (inr (inr (inr (is, so.2))))

pub refused : (line : Option Asked) (left : Option (List ℕ)) (chosen : Option (Option (List ℕ))) (s t : ℕ) (b n : Meter) (old new : Option (List ℕ)) (u v : ℕ) (eo en : Option (List ℕ)) (f g status : ℕ) → EndsAt line left chosen s t b n old new u v eo en f g status → IsRefusedRun line left → IsRefusalStatus s t status
refused line left chosen s t b n old new u v eo en f g status (ending.Decided, is, so, says) z = absurd (no_model _ line left chosen z so.0)
refused line left chosen s t b n old new u v eo en f g status (ending.Undecided why.Budget, is, so, says) z = absurd (no_model _ line left chosen z so.0)
refused line left chosen s t b n old new u v eo en f g status (ending.Undecided why.Memory, is, so, says) z = inr (inl is)
refused line left chosen s t b n old new u v eo en f g status (ending.WrongWords, is, so, says) z = absurd (no_file line left so.0 z)
refused line left chosen s t b n old new u v eo en f g status (ending.NoMemory, is, so, says) z = inr (inl is)
refused line left chosen s t b n old new u v eo en f g status (ending.Refused r token, is, so, says) z = inl is
refused line left chosen s t b n old new u v eo en f g status (ending.ReadFailed, is, so, says) z = inr (inr (is, so.2))
refused line left chosen s t b n old new u v eo en f g status (ending.WriteFailed, is, so, says) z = absurd (no_model _ line left chosen z so.0)

-- what is said of the bytes is said of what the source had left
ends_over : (line : Option Asked) (left : Option (List ℕ)) (chosen : Option (Option (List ℕ))) (s t : ℕ) (b n : Meter) (old new : Option (List ℕ)) (u v : ℕ) (e : Ending) → EndsRun line left chosen s t b n old new u v e → EndsOver left e
ends_over line None chosen s t b n old new u v ending.Decided so = tt
ends_over line None chosen s t b n old new u v (ending.Undecided why.Budget) so = tt
ends_over line None chosen s t b n old new u v (ending.Undecided why.Memory) so = tt
ends_over line None chosen s t b n old new u v ending.WrongWords so = tt
ends_over line None chosen s t b n old new u v ending.NoMemory so = tt
ends_over line None chosen s t b n old new u v (ending.Refused r token) so = tt
ends_over line None chosen s t b n old new u v ending.ReadFailed so = tt
ends_over line None chosen s t b n old new u v ending.WriteFailed so = tt
ends_over line (Some xs) chosen s t b n old new u v ending.Decided so = tt
ends_over line (Some xs) chosen s t b n old new u v (ending.Undecided why.Budget) so = tt
ends_over line (Some xs) chosen s t b n old new u v (ending.Undecided why.Memory) so = tt
ends_over line (Some xs) chosen s t b n old new u v ending.WrongWords so = tt
ends_over line (Some xs) chosen s t b n old new u v ending.NoMemory so = tt
ends_over line (Some xs) chosen s t b n old new u v (ending.Refused r token) so = so.1
ends_over line (Some xs) chosen s t b n old new u v ending.ReadFailed so = tt
ends_over line (Some xs) chosen s t b n old new u v ending.WriteFailed so = tt

pub told : (line : Option Asked) (left : Option (List ℕ)) (chosen : Option (Option (List ℕ))) (s t : ℕ) (b n : Meter) (old new : Option (List ℕ)) (u v : ℕ) (eo en : Option (List ℕ)) (f g status : ℕ) → EndsAt line left chosen s t b n old new u v eo en f g status → IsTold left eo en f g status
told line left chosen s t b n old new u v eo en f g status (e, is, so, says) = (e, is, ends_over line left chosen s t b n old new u v e so, says)
