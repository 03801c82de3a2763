-- The tokens of a file: white space and comments may stand between them, and at each other place the longest is taken.
use Rattle.std.specs.Prelude.{◌≡◌, ◌≢◌, ℕ, ◌+◌, List, [], ◌∷◌, ◌++◌, true, false, length}
use Rattle.std.specs.List.{list_all}
use Rattle.fzn_lexer.specs.Bytes.{is_white, is_in_line}
use Rattle.fzn_lexer.specs.Spelling.{IsLongest, BeginsNone}
use Rattle.fzn_lexer.specs.Spots.{Spot, token_at, end_at, bad_at}
use Rattle.fzn_lexer.specs.declared.kind.Kind.{Kind}

-- the bytes are none, or begin with the byte that ends a line
abbrev pub EndsLine : List ℕ → Type 0
EndsLine [] = Unit {0}
EndsLine (c ∷ bytes) = c ≡ 10

-- What stands in the bytes that begin on this line and at this offset of the input: at each place one of these six rules.
pub data AreTokens : ℕ → ℕ → List ℕ → List Spot → Type 0 where
  -- white space within a line is passed over
  white : {line at c : ℕ} {bytes : List ℕ} {ss : List Spot} →
      is_white c ≡ true → c ≢ 10 → AreTokens line (at + 1) bytes ss → AreTokens line at (c ∷ bytes) ss
  -- byte 10 is white space, and ends a line
  line_end : {line at : ℕ} {bytes : List ℕ} {ss : List Spot} →
      AreTokens (line + 1) (at + 1) bytes ss → AreTokens line at (10 ∷ bytes) ss
  -- a comment is passed over: from `%` to the byte before the next byte 10, or to the end
  comment : {line at : ℕ} (text bytes : List ℕ) {ss : List Spot} →
      list_all is_in_line text ≡ true → EndsLine bytes →
      AreTokens line (at + 1 + length text) bytes ss → AreTokens line at (37 ∷ (text ++ bytes)) ss
  -- a token, the longest that stands there, and what stands behind it
  token : {line at : ℕ} {kind : Kind} (w bytes : List ℕ) {ss : List Spot} →
      IsLongest kind w (w ++ bytes) →
      AreTokens line (at + length w) bytes ss → AreTokens line at (w ++ bytes) (token_at line at kind w ∷ ss)
  -- the end of the input
  end : {line at : ℕ} → AreTokens line at [] (end_at line at ∷ [])
  -- a byte that begins no token and is neither white space nor the `%` of a comment; nothing behind it is looked at
  bad : {line at c : ℕ} {bytes : List ℕ} →
      is_white c ≡ false → c ≢ 37 → BeginsNone (c ∷ bytes) → AreTokens line at (c ∷ bytes) (bad_at line at ∷ [])

-- of all lists, only this one stands in a file of these bytes
abbrev pub IsOnly : List ℕ → List Spot → Type 0
IsOnly bytes spots = (ss : List Spot) → AreTokens 1 0 bytes ss → ss ≡ spots
