-- How far a run came, and what stands where it ends there.
use Rattle.std.specs.Prelude.{◌≡◌, ℕ, ◌⊎◌, List, Some, None, Ok, ⊤}
use Rattle.std.specs.declared.option.Option.{Option}
use Rattle.std.specs.Io.KnownBytes.{Appends, Keeps}
use Rattle.cs_base.specs.Causes.{Rose, AppendsFront}
use Rattle.cs_base.specs.Chosen.{Chose}
use Rattle.fzn_model.specs.Parts.{Parts}
use Rattle.fzn_reader.specs.Reading.{reads}
use Rattle.incumbent_board.specs.Right.{IsDecided}
use Rattle.incumbent_board.specs.declared.answer.Answer.{Answer}
use Rattle.incumbent_board.specs.declared.why.Why.TheVariants as why
use Rattle.explorer.specs.declared.meter.Meter.{Meter}
use Rattle.solver.specs.Outcomes.{LacksBudget, LacksMemory}
use Rattle.command_line.specs.Asked.{Asked}
use Rattle.cachesolve_cli.specs.declared.ending.Ending.{Ending}
use Rattle.cachesolve_cli.specs.declared.ending.Ending.TheVariants as ending
use Rattle.cachesolve_cli.specs.Ways.{status_of, message_of, EndsOver, IsRefusalOf}
use Rattle.cachesolve_cli.specs.Headline.{OverModel, Decides, SpendsBudget, WantsMemory, IsCut, IsMadeOr, ChoseFile}

-- the bytes are all that a source had left, where it tells them
abbrev pub IsAll : Option (List ℕ) → List ℕ → Type 0
IsAll None bytes = ⊤
IsAll (Some xs) bytes = xs ≡ bytes

-- at the end of reading, where there is no file to go on with
abbrev pub EndsReading : Option (List ℕ) → Option (Option (List ℕ)) → Option (List ℕ) → ℕ → ℕ → Ending → Type 0
EndsReading left chosen file before now ending.NoMemory = now ≡ before
EndsReading left chosen file before now (ending.Refused r token) = EndsOver left (ending.Refused r token) × Chose chosen file × (now ≡ before)
EndsReading left chosen file before now ending.ReadFailed = Rose before now
EndsReading left chosen file before now e = ⊥

-- what an answer comes to
abbrev pub EndsBy : Answer → Ending → Type 0
EndsBy a ending.Decided = IsDecided a
EndsBy a (ending.Undecided why.Budget) = LacksBudget a
EndsBy a (ending.Undecided why.Memory) = LacksMemory a
EndsBy a e = ⊥

-- at the end of solving a model, and of writing what came of it
abbrev pub EndsSolving : Asked → Parts → Meter → Meter → Option (List ℕ) → Option (List ℕ) → ℕ → ℕ → Ending → Type 0
EndsSolving a m b n old new before now ending.Decided = Decides b n old new a m × (now ≡ before)
EndsSolving a m b n old new before now (ending.Undecided why.Budget) = SpendsBudget b n old new a m × (now ≡ before)
EndsSolving a m b n old new before now (ending.Undecided why.Memory) = WantsMemory b n old new a m × (now ≡ before)
EndsSolving a m b n old new before now ending.NoMemory = Keeps old new × (now ≡ before)
EndsSolving a m b n old new before now ending.WriteFailed = IsCut b n old new a m × Rose before now
EndsSolving a m b n old new before now e = ⊥

-- at the end of a run over the bytes of a file
abbrev pub EndsFile : Asked → List ℕ → Meter → Meter → Option (List ℕ) → Option (List ℕ) → ℕ → ℕ → Ending → Type 0
EndsFile a bytes b n old new before now (ending.Refused r token) = IsRefusalOf bytes r token.now × Keeps old new × (now ≡ before)
EndsFile a bytes b n old new before now ending.NoMemory = Keeps old new × (now ≡ before)
EndsFile a bytes b n old new before now e = (m : Parts) × (reads bytes ≡ Ok m) × EndsSolving a m b n old new before now e

-- the words are good and ask for a file
abbrev pub AsksForFile : Option Asked → Type 0
AsksForFile None = ⊥
AsksForFile (Some a) = IsMadeOr a.make ⊤ ⊥

-- At the end of a run: the line; what the source had left, what it chose, and its count of faults before and now; the meter
-- and the output before and now, and the output's count of faults.
abbrev pub EndsRun : Option Asked → Option (List ℕ) → Option (Option (List ℕ)) → ℕ → ℕ → Meter → Meter → Option (List ℕ) → Option (List ℕ) → ℕ → ℕ → Ending → Type 0
EndsRun line left chosen s t b n old new u v ending.Decided = OverModel (Decides b n old new) line left chosen × (t ≡ s) × (v ≡ u)
EndsRun line left chosen s t b n old new u v (ending.Undecided why.Budget) = OverModel (SpendsBudget b n old new) line left chosen × (t ≡ s) × (v ≡ u)
EndsRun line left chosen s t b n old new u v (ending.Undecided why.Memory) = OverModel (WantsMemory b n old new) line left chosen × (t ≡ s) × (v ≡ u)
EndsRun line left chosen s t b n old new u v ending.WrongWords = (line ≡ None) × Keeps old new × (t ≡ s) × (v ≡ u)
EndsRun line left chosen s t b n old new u v ending.NoMemory = Keeps old new × (t ≡ s) × (v ≡ u)
EndsRun line left chosen s t b n old new u v (ending.Refused r token) = ChoseFile line chosen × EndsOver left (ending.Refused r token) × Keeps old new × (t ≡ s) × (v ≡ u)
EndsRun line left chosen s t b n old new u v ending.ReadFailed = AsksForFile line × Keeps old new × Rose s t × (v ≡ u)
EndsRun line left chosen s t b n old new u v ending.WriteFailed = OverModel (IsCut b n old new) line left chosen × (t ≡ s) × Rose u v

-- what is said of a way to end: exactly its message was appended, or a part at its front where the count of faults rose
abbrev pub Says : Option (List ℕ) → Option (List ℕ) → ℕ → ℕ → Ending → Type 0
Says old new before now e = Appends old new (message_of e) ⊎ (Rose before now × AppendsFront old new (message_of e))

-- the status is that of a way to end at which this stands, and which is said
abbrev pub EndsAt : Option Asked → Option (List ℕ) → Option (Option (List ℕ)) → ℕ → ℕ → Meter → Meter → Option (List ℕ) → Option (List ℕ) → ℕ → ℕ → Option (List ℕ) → Option (List ℕ) → ℕ → ℕ → ℕ → Type 0
EndsAt line left chosen s t b n old new u v eo en f g status = (e : Ending) × (status ≡ status_of e) × EndsRun line left chosen s t b n old new u v e × Says eo en f g e
