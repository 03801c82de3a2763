-- The spots of the bytes as a function, which the lexer computes. That they are the one list that stands in a file
-- (Tokens.antt) is proved, so a caller need not read how.
use Rattle.std.specs.Prelude.{◌≡◌, ℕ, zero, suc, ◌+◌, ◌-◌, List, [], ◌∷◌, false, if◌then◌else◌, take, length, ◌==◌, Option, Some, None}
use Rattle.std.specs.List.{prefix_len}
use Rattle.fzn_lexer.specs.Bytes.{is_white, is_in_line}
use Rattle.fzn_lexer.specs.Scan.{longest_at}
use Rattle.fzn_lexer.specs.Spots.{Spot, token_at, end_at, bad_at}
use Rattle.fzn_lexer.specs.declared.kind.Kind.{Kind}

-- one bad byte, or a token and more
abbrev pub spots_by : Option (Kind × ℕ) → (Kind × ℕ → List Spot) → Spot → List Spot
spots_by None more bad = bad ∷ []
spots_by (Some t) more bad = more t

-- past `skip` bytes, what stands in the bytes from there on
unfoldable pub spots_from : ℕ → ℕ → ℕ → List ℕ → List Spot
spots_from skip line at [] = end_at line at ∷ []
spots_from (suc skip) line at (c ∷ cs) = spots_from skip line (at + 1) cs
spots_from zero line at (c ∷ cs) =
    if c == 10 then spots_from 0 (line + 1) (at + 1) cs
    else (if is_white c then spots_from 0 line (at + 1) cs
    else (if c == 37 then spots_from (prefix_len is_in_line cs) line (at + 1) cs
    else spots_by (longest_at (c ∷ cs)) (λ t. token_at line at t.0 (take t.1 (c ∷ cs)) ∷ spots_from (length (take t.1 (c ∷ cs)) - 1) line (at + 1) cs) (bad_at line at)))

-- what stands in a whole file
abbrev pub spots_of : List ℕ → List Spot
spots_of bytes = spots_from 0 1 0 bytes

-- neither white space nor a comment stands at the front
abbrev pub IsPastGap : List ℕ → Type 0
IsPastGap [] = Unit {0}
IsPastGap (c ∷ cs) = (is_white c ≡ false) × ((c == 37) ≡ false)
