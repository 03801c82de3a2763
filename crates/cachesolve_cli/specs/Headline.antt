-- What one run of the program promises.
use Rattle.std.specs.Prelude.{◌≡◌, ℕ, ◌+◌, ◌<◌, ◌⊎◌, List, Some, None, Ok, Err, ⊤, option_map}
use Rattle.std.specs.declared.option.Option.{Option}
use Rattle.std.specs.Io.KnownBytes.{Appends, Keeps}
use Rattle.cs_base.specs.Causes.{Rose, AppendsFront}
use Rattle.cs_base.specs.Chosen.{Chose}
use Rattle.fzn_model.specs.Parts.{Parts}
use Rattle.fzn_reader.specs.declared.refused.Refused.{Refused}
use Rattle.fzn_reader.specs.Reading.{reads}
use Rattle.incumbent_board.specs.Right.{Right, IsDecided}
use Rattle.incumbent_board.specs.declared.outcome.Outcome.{Outcome}
use Rattle.search_core.specs.Sizes.{product_of_sizes}
use Rattle.explorer.specs.declared.meter.Meter.{Meter}
use Rattle.solver.specs.Outcomes.{LacksBudget, LacksMemory, IsBySearch, HasTheLeast}
use Rattle.solution_out.specs.Outcomes.{outcome_text}
use Rattle.model_gen.specs.Made.{made}
use Rattle.command_line.specs.Asked.{Asked}
use Rattle.cachesolve_cli.specs.declared.ending.Ending.{Ending}
use Rattle.cachesolve_cli.specs.Ways.{status_of, message_of, EndsOver}

-- ---- the model

-- the model of the bytes that a source had left, where it tells them
abbrev pub ReadsAs : Option (List ℕ) → Parts → Type 0
ReadsAs None m = ⊤
ReadsAs (Some bytes) m = reads bytes ≡ Ok m

-- The model of a run: the one made from the number, where one is given; else that of the bytes that the source had left,
-- and the source chose the file that is named, or standard input.
abbrev pub IsModelBy : Option (List ℕ × ℕ) → Option (List ℕ) → Option (List ℕ) → Option (Option (List ℕ)) → Parts → Type 0
IsModelBy None file left chosen m = ReadsAs left m × Chose chosen file
IsModelBy (Some number) file left chosen m = m ≡ made number.1

-- good words, a model of a run by them, and more of both
abbrev pub OverModel : (Asked → Parts → Type 0) → Option Asked → Option (List ℕ) → Option (Option (List ℕ)) → Type 0
OverModel P None left chosen = ⊥
OverModel P (Some a) left chosen = (m : Parts) × IsModelBy a.make a.file left chosen m × P a m

-- the source tells the bytes that it had left, and they are a model
abbrev pub IsModelFile : Option (List ℕ) → Type 0
IsModelFile None = ⊥
IsModelFile (Some bytes) = (m : Parts) × (reads bytes ≡ Ok m)

-- the source tells the bytes that it had left, and they are refused
abbrev pub IsRefusedFile : Option (List ℕ) → Type 0
IsRefusedFile None = ⊥
IsRefusedFile (Some bytes) = (r : Refused) × (reads bytes ≡ Err r)

-- the first where nothing is made, the second where a model is
abbrev pub IsMadeOr : Option (List ℕ × ℕ) → Type 0 → Type 0 → Type 0
IsMadeOr None P Q = P
IsMadeOr (Some number) P Q = Q

-- the words are good and ask for a model that is made, or the file is one
abbrev pub IsModelRun : Option Asked → Option (List ℕ) → Type 0
IsModelRun None left = ⊥
IsModelRun (Some a) left = IsMadeOr a.make (IsModelFile left) ⊤

-- the words are good and ask for a file, and it is refused
abbrev pub IsRefusedRun : Option Asked → Option (List ℕ) → Type 0
IsRefusedRun None left = ⊥
IsRefusedRun (Some a) left = IsMadeOr a.make (IsRefusedFile left) ⊥

-- the words are good and ask for a file, and the source chose it
abbrev pub ChoseFile : Option Asked → Option (Option (List ℕ)) → Type 0
ChoseFile None chosen = ⊥
ChoseFile (Some a) chosen = IsMadeOr a.make (Chose chosen a.file) ⊥

-- nothing is read: the words are refused, or a model is made
abbrev pub IsWithoutFile : Option Asked → Type 0
IsWithoutFile None = ⊤
IsWithoutFile (Some a) = IsMadeOr a.make ⊥ ⊤

-- ---- statuses

-- The status of a run over a model: 0, or 3 where the node budget was spent, or 4 for want of memory, or 6 or 7 where the
-- source's count of faults or that of the output rose, each given by what it was before and what it is now.
abbrev pub IsModelStatus : ℕ → ℕ → ℕ → ℕ → ℕ → Type 0
IsModelStatus read_before read_now write_before write_now status = (status ≡ 0) ⊎ (status ≡ 3) ⊎ (status ≡ 4) ⊎ ((status ≡ 6) × Rose read_before read_now) ⊎ ((status ≡ 7) × Rose write_before write_now)

-- The status of a run over a file that is refused: 5, or 4 for want of memory, or 6 where the source's count of faults rose.
abbrev pub IsRefusalStatus : ℕ → ℕ → ℕ → Type 0
IsRefusalStatus read_before read_now status = (status ≡ 5) ⊎ (status ≡ 4) ⊎ ((status ≡ 6) × Rose read_before read_now)

-- ---- the outcome, and its text

-- An outcome whose answer is right, and what the meter says of it: it rose by the nodes; an answer that rests on a whole
-- search comes only where a search was closed in this run; and where the meter was new, an undecided one has the solution
-- that the meter knows of, if there is one.
pub record IsOutcome (m : Parts) (before now : Meter) (o : Outcome) : Type 0 where
  pub right : Right m o.answer
  pub nodes : now.count ≡ before.count + o.nodes
  pub closed : IsBySearch m o.answer → before.closed < now.closed
  pub least : before.least ≡ None → HasTheLeast m now.least o.answer

-- what is written: the answer, or what is known of a model that was made; and the statistics, where they are asked for
abbrev pub run_text : Asked → Parts → Outcome → List ℕ
run_text a m o = outcome_text (option_map (λ number. number.0) a.make) a.stats m o

-- ---- how a run over a model ends

-- The answer says what listing all assignments would say, and exactly its text was appended.
abbrev pub Decides : Meter → Meter → Option (List ℕ) → Option (List ℕ) → Asked → Parts → Type 0
Decides before now old new a m = (o : Outcome) × IsOutcome m before now o × IsDecided o.answer × Appends old new (run_text a m o)

-- The node budget was spent: the meter rose by exactly that, and the model has more assignments.
pub record IsBudgetSpent (budget : ℕ) (m : Parts) (before now : Meter) : Type 0 where
  pub nodes : now.count ≡ before.count + budget
  pub fewer : budget < product_of_sizes m.doms

-- The answer says that the node budget was spent, which it was, and exactly its text was appended.
abbrev pub SpendsBudget : Meter → Meter → Option (List ℕ) → Option (List ℕ) → Asked → Parts → Type 0
SpendsBudget before now old new a m = (o : Outcome) × IsOutcome m before now o × LacksBudget o.answer × IsBudgetSpent a.options.nodes m before now × Appends old new (run_text a m o)

-- The answer says that memory was wanting, and exactly its text was appended.
abbrev pub WantsMemory : Meter → Meter → Option (List ℕ) → Option (List ℕ) → Asked → Parts → Type 0
WantsMemory before now old new a m = (o : Outcome) × IsOutcome m before now o × LacksMemory o.answer × Appends old new (run_text a m o)

-- A part at the front of the text was appended.
abbrev pub IsCut : Meter → Meter → Option (List ℕ) → Option (List ℕ) → Asked → Parts → Type 0
IsCut before now old new a m = (o : Outcome) × IsOutcome m before now o × AppendsFront old new (run_text a m o)

-- ---- the run

-- a decided run
abbrev pub IsDecidedRun : Option Asked → Option (List ℕ) → Option (Option (List ℕ)) → Meter → Meter → Option (List ℕ) → Option (List ℕ) → Type 0
IsDecidedRun line left chosen before now old new = OverModel (Decides before now old new) line left chosen

-- a run that is undecided for want of nodes
abbrev pub IsBudgetRun : Option Asked → Option (List ℕ) → Option (Option (List ℕ)) → Meter → Meter → Option (List ℕ) → Option (List ℕ) → Type 0
IsBudgetRun line left chosen before now old new = OverModel (SpendsBudget before now old new) line left chosen

-- a run that is undecided for want of memory: nothing was appended, or what its answer says
abbrev pub IsMemoryRun : Option Asked → Option (List ℕ) → Option (Option (List ℕ)) → Meter → Meter → Option (List ℕ) → Option (List ℕ) → Type 0
IsMemoryRun line left chosen before now old new = Keeps old new ⊎ OverModel (WantsMemory before now old new) line left chosen

-- a run whose writing failed
abbrev pub IsCutRun : Option Asked → Option (List ℕ) → Option (Option (List ℕ)) → Meter → Meter → Option (List ℕ) → Option (List ℕ) → Type 0
IsCutRun line left chosen before now old new = OverModel (IsCut before now old new) line left chosen

-- The status is that of a way to end, and exactly its message was appended, or a part at its front where the count of
-- faults rose.
abbrev pub IsTold : Option (List ℕ) → Option (List ℕ) → Option (List ℕ) → ℕ → ℕ → ℕ → Type 0
IsTold left old new before now status = (e : Ending) × (status ≡ status_of e) × EndsOver left e × (Appends old new (message_of e) ⊎ (Rose before now × AppendsFront old new (message_of e)))
