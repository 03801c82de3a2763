-- The ways in which a run ends: each with its status and its message on the error output. All of it is this project's own.
use Rattle.std.specs.Prelude.{◌≡◌, ℕ, ◌-◌, List, [], codes, Some, Err, ⊤, take, drop}
use Rattle.std.specs.declared.option.Option.{Option}
use Rattle.fzn_reader.specs.declared.code.Code.{Code}
use Rattle.fzn_reader.specs.declared.code.Code.TheVariants as code
use Rattle.fzn_reader.specs.declared.refused.Refused.{Refused}
use Rattle.fzn_reader.specs.Reading.{reads}
use Rattle.incumbent_board.specs.declared.why.Why.TheVariants as why
use Rattle.solution_out.specs.Refusals.{refusal_text}
use Rattle.cachesolve_cli.specs.declared.ending.Ending.{Ending}
use Rattle.cachesolve_cli.specs.declared.ending.Ending.TheVariants as ending

-- the name of a reason for refusing a model
abbrev pub name_of : Code → List ℕ
name_of code.Syntax = codes "syntax"
name_of code.UnknownConstraint = codes "unknown constraint"
name_of code.Float = codes "float"
name_of code.SetVar = codes "set variable"
name_of code.Undeclared = codes "undeclared"
name_of code.DeclaredTwice = codes "declared twice"
name_of code.WrongArguments = codes "wrong arguments"
name_of code.OutOfRange = codes "out of range"
name_of code.Lengths = codes "lengths"
name_of code.TooMany = codes "too many"
name_of code.TooLong = codes "too long"
name_of code.NoSolve = codes "no solve"
name_of code.TwoSolves = codes "two solves"
name_of code.TooDeep = codes "too deep"

-- the bytes of the token that shows a refusal
unfoldable pub token_of : Refused → List ℕ → List ℕ
token_of r bytes = take (r.to - r.from) (drop r.from bytes)

-- the status
abbrev pub status_of : Ending → ℕ
status_of ending.Decided = 0
status_of ending.WrongWords = 2
status_of (ending.Undecided why.Budget) = 3
status_of (ending.Undecided why.Memory) = 4
status_of ending.NoMemory = 4
status_of (ending.Refused r token) = 5
status_of ending.ReadFailed = 6
status_of ending.WriteFailed = 7

-- what is said of wrong words: how to use the program
abbrev pub usage : List ℕ
usage = codes "cachesolve: wrong words; use cachesolve [-p N] [-s] [--cache N] [--key-words N] [--nodes N] [--log] [--make N] [FILE]\n"

-- the message
abbrev pub message_of : Ending → List ℕ
message_of ending.Decided = []
message_of (ending.Undecided why.Budget) = []
message_of (ending.Undecided why.Memory) = codes "cachesolve: out of memory\n"
message_of ending.WrongWords = usage
message_of ending.NoMemory = codes "cachesolve: out of memory\n"
message_of (ending.Refused r token) = refusal_text r.line (name_of r.code) token.now
message_of ending.ReadFailed = codes "cachesolve: read failed\n"
message_of ending.WriteFailed = codes "cachesolve: write failed\n"

-- the refusal is the one that reading gives for the bytes, with the token that shows it
pub record IsRefusalOf (bytes : List ℕ) (r : Refused) (token : List ℕ) : Type 0 where
  pub refused : reads bytes ≡ Err r
  pub shown : token ≡ token_of r bytes

-- A run ends as refused only with the refusal of the bytes that its source had left, where that tells them.
abbrev pub EndsOver : Option (List ℕ) → Ending → Type 0
EndsOver (Some bytes) (ending.Refused r token) = IsRefusalOf bytes r token.now
EndsOver left e = ⊤
