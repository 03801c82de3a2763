-- What each step of reading a line finds. It is this project's own.
use Rattle.std.specs.Prelude.{◌≡◌, ℕ, ◌<◌, ◌^◌, ◌++◌, List, [], ◌∷◌, ℤ, pos, Bool, All, FitsSigned, Option, Some, None}
use Rattle.std.specs.Int.{w64, w128}
use Rattle.std.specs.Fmt.{signed_decimal}
use Rattle.std.specs.List.{flat_map}
use Rattle.fzn_model.specs.Meaning.{bit}
use Rattle.run_log.specs.declared.line.LogLine.{LogLine}
use Rattle.run_log.specs.declared.line.LogLine.TheVariants as line
use Rattle.run_log.specs.declared.entry.LogEntry.{LogEntry}
use Rattle.run_log.specs.Texts.{name_of, numbers_of, number_text, entry_text}
use Rattle.run_log.specs.Readings.{FitsLine, Fits}

-- a value with the property, and none only where no value has it
abbrev pub Finds : {X : Type 0} → (X → Type 0) → Option X → Type 0
Finds P (Some x) = P x
Finds {X = X} P None = (x : X) → P x → ⊥

-- it is empty, or begins with the byte
abbrev pub Follows : ℕ → List ℕ → Type 0
Follows byte [] = Unit {0}
Follows byte (b ∷ bytes) = b ≡ byte

abbrev pub Differs : ℕ → ℕ → Type 0
Differs byte b = b ≡ byte → ⊥

-- the byte isn't in it
abbrev pub Lacks : ℕ → List ℕ → Type 0
Lacks byte bytes = All (Differs byte) bytes

-- the bytes before the first `byte`, and from there on
pub record Splits (byte : ℕ) (bytes front behind : List ℕ) : Type 0 where
  pub whole : bytes ≡ front ++ behind
  pub lacks : Lacks byte front
  pub follows : Follows byte behind

pub record IsNumber (word : List ℕ) (z : ℤ) : Type 0 where
  pub fits : FitsSigned w128 z
  pub text : signed_decimal z ≡ word

pub record AreNumbers (text : List ℕ) (zs : List ℤ) : Type 0 where
  pub fit : All (FitsSigned w128) zs
  pub shown : flat_map number_text zs ≡ text

-- ---- the fields
pub record IsSmall (z : ℤ) (n : ℕ) : Type 0 where
  pub fits : n < 2 ^ 32
  pub is : pos n ≡ z

pub record IsCount (z : ℤ) (n : ℕ) : Type 0 where
  pub fits : n < 2 ^ 64
  pub is : pos n ≡ z

pub record IsValue (z value : ℤ) : Type 0 where
  pub fits : FitsSigned w64 value
  pub is : value ≡ z

pub record IsFlag (z : ℤ) (up : Bool) : Type 0 where
  pub is : bit up ≡ z

pub record AreValues (zs values : List ℤ) : Type 0 where
  pub fit : All (FitsSigned w64) values
  pub are : values ≡ zs

-- ---- a line and an entry
-- a line with neither words nor values
abbrev pub IsAlone : LogLine → Type 0
IsAlone (line.Node depth seen) = Unit {0}
IsAlone (line.Rest offset) = ⊥
IsAlone (line.Wide words) = Unit {0}
IsAlone (line.Gone place) = Unit {0}
IsAlone (line.Hit depth bound place) = Unit {0}
IsAlone (line.Expand depth var at up) = Unit {0}
IsAlone (line.Solution cost) = ⊥
IsAlone (line.Leaf depth bound) = Unit {0}
IsAlone (line.Join depth bound) = Unit {0}
IsAlone (line.Publish place bound) = Unit {0}

pub record IsLine (name : List ℕ) (zs : List ℤ) (l : LogLine) : Type 0 where
  pub alone : IsAlone l
  pub fit : FitsLine l
  pub named : name_of l ≡ name
  pub numbers : numbers_of l ≡ zs

pub record IsEntry (name : List ℕ) (zs : List ℤ) (e : LogEntry) : Type 0 where
  pub fit : Fits e
  pub named : name_of e.line ≡ name
  pub numbers : numbers_of e.line ++ e.words ++ e.values ≡ zs

pub record HasText (text : List ℕ) (e : LogEntry) : Type 0 where
  pub fit : Fits e
  pub shown : entry_text e ≡ text
