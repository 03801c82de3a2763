-- What stands in a file, spot by spot: tokens, and one end or one bad byte behind them.
use Rattle.std.specs.Prelude.{◌≡◌, ℕ, ◌+◌, List, [], ◌∷◌, length, Option, Some, None, Result, Ok, Err}
use Rattle.fzn_lexer.specs.declared.kind.Kind.{Kind}
use Rattle.fzn_lexer.specs.declared.seen.Seen.{Seen}
use Rattle.fzn_lexer.specs.declared.seen.Seen.TheVariants.{Known, End, Bad}
use Rattle.fzn_lexer.specs.declared.spot.Spot.{Spot as SpotValue}
use Rattle.fzn_lexer.specs.declared.token.Token.{Token}
use Rattle.fzn_lexer.specs.declared.bad_byte.BadByte.{BadByte}

-- what stands at a place, its text, its line, and where it begins and ends in the input
pub record Spot : Type 0 where
  pub seen : Seen
  pub text : List ℕ
  pub line : ℕ
  pub from : ℕ
  pub to : ℕ

-- a token of this kind and text
abbrev pub token_at : ℕ → ℕ → Kind → List ℕ → Spot
token_at line at kind text = record { seen = Known kind; text = text; line = line; from = at; to = at + length text }

-- the end of the input: an empty span
abbrev pub end_at : ℕ → ℕ → Spot
end_at line at = record { seen = End; text = []; line = line; from = at; to = at }

-- one byte that begins no token
abbrev pub bad_at : ℕ → ℕ → Spot
bad_at line at = record { seen = Bad; text = []; line = line; from = at; to = at + 1 }

-- the first spot of a list, which is never empty where it is a lexer's
abbrev pub first : List Spot → Spot
first [] = end_at 0 0
first (s ∷ ss) = s

-- what is left behind a spot that is passed, or stays
abbrev pub rest_by : Seen → Spot → List Spot → List Spot
rest_by (Known k) s ss = ss
rest_by End s ss = s ∷ ss
rest_by Bad s ss = s ∷ ss

-- the list behind its first spot, where that is a token; an end and a bad byte stay
abbrev pub after_first : List Spot → List Spot
after_first [] = []
after_first (s ∷ ss) = rest_by s.seen s ss

-- behind a token stands more, behind an end or a bad byte nothing
abbrev pub whole_by : Seen → List Spot → Type 0 → Type 0
whole_by (Known k) ss More = More
whole_by End ss More = ss ≡ []
whole_by Bad ss More = ss ≡ []

-- tokens, and behind them one end or one bad byte
abbrev pub IsWhole : List Spot → Type 0
IsWhole [] = ⊥
IsWhole (s ∷ ss) = whole_by s.seen ss (IsWhole ss)

-- a spot that the lexer hands out, without where its text lies in memory
abbrev pub spot_of : SpotValue → Spot
spot_of s = record { seen = s.seen; text = s.text.now; line = s.line; from = s.from; to = s.to }

-- A token with all its parts where the spot is that token, nothing exactly at the end, an error exactly at a bad byte.
abbrev pub Shows : Result (Option Token) BadByte → Spot → Type 0
Shows (Ok (Some t)) s = s ≡ record { seen = Known t.kind; text = t.text.now; line = t.line; from = t.from; to = t.to }
Shows (Ok None) s = s.seen ≡ End
Shows (Err b) s = (s.seen ≡ Bad) × (s.line ≡ b.line) × (s.from ≡ b.from)

-- where no token is answered the list stays, so that the next call answers the same
abbrev pub Stays : Result (Option Token) BadByte → List Spot → List Spot → Type 0
Stays (Ok (Some t)) old new = Unit {0}
Stays (Ok None) old new = new ≡ old
Stays (Err b) old new = new ≡ old
