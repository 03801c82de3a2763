-- What reading promises beside its definition: what is accepted is spelled by the grammar, what the grammar spells is not
-- refused for its form, and a refusal points to a token of the file, to its end, or to the byte that begins no token.
use Rattle.std.specs.Prelude.{◌≡◌, ℕ, List, Bool, true, false, ◌&&◌, ◌||◌, not, [], ◌∷◌, ◌++◌, ◌⊎◌, ⊤, Result, Ok, Err, codes, is_none, length, ◌<◌, ◌≤◌}
use Rattle.fzn_lexer.specs.Spots.{Spot, IsWhole}
use Rattle.fzn_lexer.specs.Passes.{spots_of}
use Rattle.fzn_lexer.specs.declared.seen.Seen.TheVariants.{End}
use Rattle.fzn_lexer.specs.declared.kind.Kind.TheVariants as kind
use Rattle.fzn_builtin.specs.Builtins.{numbered}
use Rattle.fzn_model.specs.Parts.{Parts}
use Rattle.fzn_reader.specs.declared.code.Code.{Code}
use Rattle.fzn_reader.specs.declared.code.Code.TheVariants as code
use Rattle.fzn_reader.specs.declared.refused.Refused.{Refused}
use Rattle.fzn_reader.specs.declared.parse_fault.ParseFault.{ParseFault}
use Rattle.fzn_reader.specs.declared.parse_fault.ParseFault.TheVariants as fault
use Rattle.fzn_reader.specs.Refusals.{is_kind, is_spelled, is_reserved}
use Rattle.fzn_reader.specs.Numbers.{number_in}
use Rattle.fzn_reader.specs.Reading.{is_end_by, too_long}
use Rattle.fzn_parser.specs.Grammar.{File}

-- a word that isn't reserved
abbrev pub is_name : Spot → Bool
is_name s = is_kind kind.Word s.seen && not (is_reserved s.text)

abbrev pub is_truth : Spot → Bool
is_truth s = is_spelled kind.Word (codes "true") s || is_spelled kind.Word (codes "false") s

-- a mark that opens a list or a set
abbrev pub opens_many : Spot → Bool
opens_many s = is_spelled kind.Mark (codes "[") s || is_spelled kind.Mark (codes "{") s

-- a token that begins an expression
abbrev pub begins_expr : Spot → Bool
begins_expr s = (is_kind kind.Number s.seen || is_truth s) || (is_name s || opens_many s)

-- the tokens that may show a refusal, a line for each code
abbrev pub may_show : Code → Spot → Bool
may_show code.Syntax s = true
may_show code.UnknownConstraint s = is_name s && is_none (numbered s.text)
may_show code.Float s = is_kind kind.Real s.seen || is_spelled kind.Word (codes "float") s
may_show code.SetVar s = is_spelled kind.Word (codes "set") s
may_show code.Undeclared s = is_name s
may_show code.DeclaredTwice s = is_name s
may_show code.WrongArguments s = begins_expr s || is_spelled kind.Mark (codes ")") s
may_show code.OutOfRange s = is_kind kind.Number s.seen && is_none (number_in s.text)
may_show code.Lengths s = is_spelled kind.Mark (codes "]") s || is_spelled kind.Mark (codes ")") s
may_show code.TooMany s = begins_expr s || is_spelled kind.Word (codes "constraint") s
may_show code.TooLong s = false
may_show code.NoSolve s = is_end_by s.seen
may_show code.TwoSolves s = is_spelled kind.Word (codes "solve") s
may_show code.TooDeep s = is_spelled kind.Mark (codes "(") s || opens_many s

-- a refusal has the line and the span of what stands there, and a code that this may show
pub record Shows (r : Refused) (s : Spot) : Type 0 where
  pub line : r.line ≡ s.line
  pub from : r.from ≡ s.from
  pub to : r.to ≡ s.to
  pub may : may_show r.code s ≡ true

-- The front of a list is spelled by a rule, and the rest is what is left of the file.
pub record Reads (Rule : List Spot → Type 0) (ts rest : List Spot) : Type 0 where
  pub front : List Spot
  pub spelled : Rule front
  pub joined : ts ≡ front ++ rest
  pub whole : IsWhole rest

-- The tokens of the file, up to its end, are spelled by the grammar.
pub record IsSpelled (bytes : List ℕ) : Type 0 where
  pub tokens : List Spot
  pub end : Spot
  pub all : spots_of bytes ≡ tokens ++ end ∷ []
  pub ended : end.seen ≡ End
  pub file : File tokens

-- One of the spots shows a refusal, and those before it begin what a rule spells: with others behind them they are spelled.
pub record Begins (Rule : List Spot → Type 0) (ts : List Spot) (r : Refused) : Type 0 where
  pub front : List Spot
  pub spot : Spot
  pub back : List Spot
  pub others : List Spot
  pub joined : ts ≡ front ++ spot ∷ back
  pub shown : Shows r spot
  pub spelled : Rule (front ++ others)

-- The refusal of a file of more than 67,108,864 bytes; or, of another file, one that a token of it shows, or what stands
-- behind its tokens, where the tokens before that begin a file that the grammar spells.
abbrev pub IsFair : List ℕ → Refused → Type 0
IsFair bytes r = ((67108864 < length bytes) × (r ≡ too_long)) ⊎ ((length bytes ≤ 67108864) × Begins File (spots_of bytes) r)

-- what comes in place of a model: memory has run out, or a fair refusal
abbrev pub IsFairFault : List ℕ → ParseFault → Type 0
IsFairFault bytes fault.NoMemory = ⊤
IsFairFault bytes (fault.Refused r) = IsFair bytes r

-- the codes that speak of a file's form
abbrev pub is_form : Code → Bool
is_form code.Syntax = true
is_form code.Float = true
is_form code.SetVar = true
is_form c = false

-- what comes in place of a model does not speak of the form
abbrev pub IsBeyondForm : ParseFault → Type 0
IsBeyondForm fault.NoMemory = ⊤
IsBeyondForm (fault.Refused r) = is_form r.code ≡ false

-- this model is answered, unless memory ran out
abbrev pub IsAnswered : Parts → Result Parts ParseFault → Type 0
IsAnswered m (Ok n) = n ≡ m
IsAnswered m (Err fault.NoMemory) = ⊤
IsAnswered m (Err (fault.Refused r)) = ⊥
