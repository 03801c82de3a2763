-- What a text says as a log. It is this project's own.
use Rattle.std.specs.Prelude.{◌≡◌, ℕ, ◌+◌, ◌<◌, ◌^◌, ◌++◌, ◌⊎◌, List, [], length, ℤ, All, FitsSigned, codes, Contains}
use Rattle.std.specs.Int.{w64, w128}
use Rattle.run_log.specs.declared.line.LogLine.{LogLine}
use Rattle.run_log.specs.declared.line.LogLine.TheVariants as line
use Rattle.run_log.specs.declared.entry.LogEntry.{LogEntry}
use Rattle.run_log.specs.declared.reading.LogFault.{LogFault}
use Rattle.run_log.specs.declared.reading.LogFault.TheVariants as fault
use Rattle.run_log.specs.Texts.{entry_text, entries_text}

-- each number fits its field
abbrev pub FitsLine : LogLine → Type 0
FitsLine (line.Node depth seen) = (depth < 2 ^ 32) × FitsSigned w64 seen
FitsLine (line.Rest offset) = FitsSigned w128 offset
FitsLine (line.Wide words) = words < 2 ^ 64
FitsLine (line.Gone place) = place < 2 ^ 32
FitsLine (line.Hit depth bound place) = (depth < 2 ^ 32) × FitsSigned w64 bound × (place < 2 ^ 32)
FitsLine (line.Expand depth var at up) = (depth < 2 ^ 32) × (var < 2 ^ 32) × FitsSigned w64 at
FitsLine (line.Solution cost) = FitsSigned w64 cost
FitsLine (line.Leaf depth bound) = (depth < 2 ^ 32) × FitsSigned w64 bound
FitsLine (line.Join depth bound) = (depth < 2 ^ 32) × FitsSigned w64 bound
FitsLine (line.Publish place bound) = (place < 2 ^ 32) × FitsSigned w128 bound

-- a line `rest` alone has words
abbrev pub WordsOf : LogLine → List ℤ → Type 0
WordsOf (line.Node depth seen) words = words ≡ []
WordsOf (line.Rest offset) words = All (FitsSigned w128) words
WordsOf (line.Wide count) words = words ≡ []
WordsOf (line.Gone place) words = words ≡ []
WordsOf (line.Hit depth bound place) words = words ≡ []
WordsOf (line.Expand depth var at up) words = words ≡ []
WordsOf (line.Solution cost) words = words ≡ []
WordsOf (line.Leaf depth bound) words = words ≡ []
WordsOf (line.Join depth bound) words = words ≡ []
WordsOf (line.Publish place bound) words = words ≡ []

-- a line `solution` alone has values
abbrev pub ValuesOf : LogLine → List ℤ → Type 0
ValuesOf (line.Node depth seen) values = values ≡ []
ValuesOf (line.Rest offset) values = values ≡ []
ValuesOf (line.Wide count) values = values ≡ []
ValuesOf (line.Gone place) values = values ≡ []
ValuesOf (line.Hit depth bound place) values = values ≡ []
ValuesOf (line.Expand depth var at up) values = values ≡ []
ValuesOf (line.Solution cost) values = All (FitsSigned w64) values
ValuesOf (line.Leaf depth bound) values = values ≡ []
ValuesOf (line.Join depth bound) values = values ≡ []
ValuesOf (line.Publish place bound) values = values ≡ []

pub record Fits (e : LogEntry) : Type 0 where
  pub line : FitsLine e.line
  pub words : WordsOf e.line e.words
  pub values : ValuesOf e.line e.values

-- The text of these entries, each number in its field; the last line feed may lack.
pub record IsLog (bytes : List ℕ) (entries : List LogEntry) : Type 0 where
  pub fit : All Fits entries
  pub text : (bytes ≡ entries_text entries) ⊎ ((bytes ++ codes "\n") ≡ entries_text entries)

-- one line of a text: no line feed is in it, and the text ends behind it or goes on with one
pub record Stands (line behind : List ℕ) : Type 0 where
  pub whole : Contains line 10 → ⊥
  pub some : 0 < length (line ++ behind)
  pub ends : (behind ≡ []) ⊎ ((more : List ℕ) × (behind ≡ codes "\n" ++ more))

-- The first line of a text that is the text of no entry is this one, counted from 1.
pub record IsBadLine (bytes : List ℕ) (number : ℕ) : Type 0 where
  pub entries : List LogEntry
  pub line : List ℕ
  pub behind : List ℕ
  pub fit : All Fits entries
  pub counted : number ≡ length entries + 1
  pub text : bytes ≡ entries_text entries ++ line ++ behind
  pub stands : Stands line behind
  pub none : (e : LogEntry) → Fits e → entry_text e ≡ line → ⊥

-- a fault has its cause: a bad line, or want of memory, which is free
abbrev pub IsFaultOf : List ℕ → LogFault → Type 0
IsFaultOf bytes (fault.BadLine number) = IsBadLine bytes number
IsFaultOf bytes fault.NoMemory = Unit {0}
