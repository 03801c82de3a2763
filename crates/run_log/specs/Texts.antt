-- The lines of a log, and their text. The form is this project's own; numbers are in decimal as the library prints them.
use Rattle.std.specs.Prelude.{ℕ, ◌∷◌, ◌++◌, List, [], ℤ, pos, Option, Some, None, codes}
use Rattle.std.specs.Fmt.{signed_decimal}
use Rattle.std.specs.List.{flat_map}
use Rattle.fzn_model.specs.Meaning.{bit}
use Rattle.fzn_model.specs.Rests.{RestParts}
use Rattle.rest_key.specs.Words.{words_of}
use Rattle.run_log.specs.declared.line.LogLine.{LogLine}
use Rattle.run_log.specs.declared.line.LogLine.TheVariants as line
use Rattle.run_log.specs.declared.entry.LogEntry.{LogEntry}

-- a line as it is noted: with its residual problem, or with the values of its solution
pub record Line : Type 0 where
  pub line : LogLine
  pub rest : Option RestParts
  pub values : List ℤ

-- a line with neither
abbrev pub plain : LogLine → Line
plain l = record { line = l; rest = None; values = [] }

-- a line with its residual problem
abbrev pub with_rest : LogLine → RestParts → Line
with_rest l r = record { line = l; rest = Some r; values = [] }

-- a line with its values
abbrev pub with_values : LogLine → List ℤ → Line
with_values l values = record { line = l; rest = None; values = values }

abbrev pub shown_words : Option RestParts → List ℤ
shown_words None = []
shown_words (Some r) = words_of r

-- a line as it is read: a residual problem is its words
abbrev pub entry_of : Line → LogEntry
entry_of l = record { line = l.line; words = shown_words l.rest; values = l.values }

abbrev pub name_of : LogLine → List ℕ
name_of (line.Node depth seen) = codes "node"
name_of (line.Rest offset) = codes "rest"
name_of (line.Wide words) = codes "wide"
name_of (line.Gone place) = codes "gone"
name_of (line.Hit depth bound place) = codes "hit"
name_of (line.Expand depth var at up) = codes "expand"
name_of (line.Solution cost) = codes "solution"
name_of (line.Leaf depth bound) = codes "leaf"
name_of (line.Join depth bound) = codes "join"
name_of (line.Publish place bound) = codes "publish"

-- the numbers that a line shows, before words or values
abbrev pub numbers_of : LogLine → List ℤ
numbers_of (line.Node depth seen) = pos depth ∷ seen ∷ []
numbers_of (line.Rest offset) = offset ∷ []
numbers_of (line.Wide words) = pos words ∷ []
numbers_of (line.Gone place) = pos place ∷ []
numbers_of (line.Hit depth bound place) = pos depth ∷ bound ∷ pos place ∷ []
numbers_of (line.Expand depth var at up) = pos depth ∷ pos var ∷ at ∷ bit up ∷ []
numbers_of (line.Solution cost) = cost ∷ []
numbers_of (line.Leaf depth bound) = pos depth ∷ bound ∷ []
numbers_of (line.Join depth bound) = pos depth ∷ bound ∷ []
numbers_of (line.Publish place bound) = pos place ∷ bound ∷ []

abbrev pub number_text : ℤ → List ℕ
number_text z = codes " " ++ signed_decimal z

-- `%log`, the name, and the numbers, with a space before each of them; without the line feed
unfoldable pub entry_text : LogEntry → List ℕ
entry_text e = codes "%log " ++ name_of e.line ++ flat_map number_text (numbers_of e.line ++ e.words ++ e.values)

abbrev pub ended : List ℕ → List ℕ
ended text = text ++ codes "\n"

-- entries, each with its line feed
abbrev pub entries_text : List LogEntry → List ℕ
entries_text entries = flat_map (λ e. ended (entry_text e)) entries

-- lines, each with its line feed
unfoldable pub log_text : List Line → List ℕ
log_text lines = flat_map (λ l. ended (entry_text (entry_of l))) lines
