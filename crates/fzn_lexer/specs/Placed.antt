-- Where the spots of a list lie in the input.
use Rattle.std.specs.Prelude.{◌≡◌, ℕ, ◌+◌, ◌≤◌, ◌<◌, List, [], ◌∷◌, length, take, count_by, slice_range, ◌==◌}
use Rattle.fzn_lexer.specs.Spots.{Spot}
use Rattle.fzn_lexer.specs.declared.seen.Seen.{Seen}
use Rattle.fzn_lexer.specs.declared.seen.Seen.TheVariants.{Known, End, Bad}

-- the line of what begins at this offset: one more than the number of bytes 10 before it
abbrev pub line_at : List ℕ → ℕ → ℕ
line_at input at = 1 + count_by (λ c. c == 10) (take at input)

-- the text of a token is the slice of its span; the end has the empty span at the input's length, a bad byte that of one byte
abbrev pub IsSpan : Seen → List ℕ → List ℕ → ℕ → ℕ → Type 0
IsSpan (Known kind) input text from to = (from < to) × (text ≡ slice_range input from to)
IsSpan End input text from to = (text ≡ []) × (from ≡ length input) × (to ≡ length input)
IsSpan Bad input text from to = (text ≡ []) × (to ≡ from + 1)

-- the spots lie one behind the other from this offset on, within the input, each on the line of its place
abbrev pub ArePlaced : List ℕ → ℕ → List Spot → Type 0
ArePlaced input at [] = Unit {0}
ArePlaced input at (s ∷ ss) = (at ≤ s.from) × (s.to ≤ length input) × (s.line ≡ line_at input s.from) × IsSpan s.seen input s.text s.from s.to × ArePlaced input s.to ss
