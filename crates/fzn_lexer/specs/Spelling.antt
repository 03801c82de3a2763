-- What spells a token: the lexical part of the FlatZinc grammar (MiniZinc Handbook, "FlatZinc and Flattening").
use Rattle.std.specs.Prelude.{◌≡◌, ◌≢◌, ℕ, ◌≤◌, ◌⊎◌, List, [], ◌∷◌, ◌++◌, Bool, true, codes, length}
use Rattle.std.specs.List.{list_all}
use Rattle.fzn_lexer.specs.Bytes.{is_digit, is_octal, is_hex, is_start, is_part, is_minus, is_sign, is_point, is_e, is_zero, is_x, is_o, is_quote, is_single}
use Rattle.fzn_lexer.specs.declared.kind.Kind.{Kind}
use Rattle.fzn_lexer.specs.declared.kind.Kind.TheVariants.{Word, Number, Real, Text, Mark}

-- one byte or more, each of which passes
abbrev pub IsRun : (ℕ → Bool) → List ℕ → Type 0
IsRun test [] = ⊥
IsRun test (c ∷ w) = (test c ≡ true) × (list_all test w ≡ true)

-- a byte that passes, and then what the second spells
abbrev pub IsAfter : (ℕ → Bool) → (List ℕ → Type 0) → List ℕ → Type 0
IsAfter test Spelled w = (c : ℕ) × (u : List ℕ) × (test c ≡ true) × Spelled u × (w ≡ c ∷ u)

-- the same, and the byte is optional
abbrev pub IsMaybeAfter : (ℕ → Bool) → (List ℕ → Type 0) → List ℕ → Type 0
IsMaybeAfter test Spelled w = Spelled w ⊎ IsAfter test Spelled w

-- what the first spells, and then what the second spells
abbrev pub IsJoined : (List ℕ → Type 0) → (List ℕ → Type 0) → List ℕ → Type 0
IsJoined First Second w = (u v : List ℕ) × First u × Second v × (w ≡ u ++ v)

-- a letter or `_`, then letters, digits and `_`
abbrev pub IsWord : List ℕ → Type 0
IsWord [] = ⊥
IsWord (c ∷ w) = (is_start c ≡ true) × (list_all is_part w ≡ true)

-- `0x` and hexadecimal digits
abbrev pub IsHexadecimal : List ℕ → Type 0
IsHexadecimal = IsAfter is_zero (IsAfter is_x (IsRun is_hex))

-- `0o` and octal digits
abbrev pub IsOctal : List ℕ → Type 0
IsOctal = IsAfter is_zero (IsAfter is_o (IsRun is_octal))

-- decimal digits, or `0x` and hexadecimal digits, or `0o` and octal digits
abbrev pub IsUnsigned : List ℕ → Type 0
IsUnsigned w = IsRun is_digit w ⊎ IsHexadecimal w ⊎ IsOctal w

-- an optional `-`, and an unsigned number
abbrev pub IsNumber : List ℕ → Type 0
IsNumber = IsMaybeAfter is_minus IsUnsigned

-- `.` and digits
abbrev pub IsFraction : List ℕ → Type 0
IsFraction = IsAfter is_point (IsRun is_digit)

-- `e` or `E`, an optional sign, digits
abbrev pub IsExponent : List ℕ → Type 0
IsExponent = IsAfter is_e (IsMaybeAfter is_sign (IsRun is_digit))

-- a fraction, or an exponent, or both
abbrev pub IsTail : List ℕ → Type 0
IsTail w = IsFraction w ⊎ IsExponent w ⊎ IsJoined IsFraction IsExponent w

-- an optional `-`, digits, then a fraction, or an exponent, or both
abbrev pub IsReal : List ℕ → Type 0
IsReal = IsMaybeAfter is_minus (IsJoined (IsRun is_digit) IsTail)

-- what stands behind an opening quote, up to and with the closing one: any bytes other than `"` and byte 10;
-- a backslash takes the next byte with it, which isn't byte 10
pub data IsQuoted : List ℕ → Type 0 where
  closing : IsQuoted (34 ∷ [])
  plain : {c : ℕ} {w : List ℕ} → c ≢ 34 → c ≢ 92 → c ≢ 10 → IsQuoted w → IsQuoted (c ∷ w)
  escaped : {c : ℕ} {w : List ℕ} → c ≢ 10 → IsQuoted w → IsQuoted (92 ∷ c ∷ w)

-- a quote, bytes, and a quote
abbrev pub IsText : List ℕ → Type 0
IsText = IsAfter is_quote IsQuoted

-- one of ( ) [ ] { } , : :: ; = ..
abbrev pub IsMark : List ℕ → Type 0
IsMark w = ((c : ℕ) × (is_single c ≡ true) × (w ≡ c ∷ [])) ⊎ (w ≡ codes "::") ⊎ (w ≡ codes "..")

-- the bytes spell a token of this kind
unfoldable pub Spells : Kind → List ℕ → Type 0
Spells Word w = IsWord w
Spells Number w = IsNumber w
Spells Real w = IsReal w
Spells Text w = IsText w
Spells Mark w = IsMark w

-- no front of the bytes that spells a token, of any kind, is longer than this
abbrev pub IsUpTo : ℕ → List ℕ → Type 0
IsUpTo most bytes = (kind : Kind) (v rest : List ℕ) → Spells kind v → bytes ≡ v ++ rest → length v ≤ most

-- w spells a token of this kind, is a front of the bytes, and no longer front spells a token
pub record IsLongest (kind : Kind) (w bytes : List ℕ) : Type 0 where
  pub spelled : Spells kind w
  pub rest : List ℕ
  pub front : bytes ≡ w ++ rest
  pub longest : IsUpTo (length w) bytes

-- no front of the bytes spells a token
abbrev pub BeginsNone : List ℕ → Type 0
BeginsNone bytes = (kind : Kind) (v rest : List ℕ) → Spells kind v → bytes ≡ v ++ rest → ⊥
