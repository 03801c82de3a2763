-- Reading from left to right, for every rule of the grammar. A function of reading takes the tokens from its place on,
-- and answers a value and the tokens behind what it read; or it refuses, at the first token that shows a reason.
use Rattle.std.specs.Prelude.{ℕ, zero, suc, List, Bool, true, false, Result, Ok, Err, Option, Some, None, if◌then◌else◌, ◌&&◌, ◌||◌, not, codes}
use Rattle.std.specs.Str.{bytes_eq}
use Rattle.fzn_lexer.specs.Spots.{Spot, first, after_first}
use Rattle.fzn_lexer.specs.declared.seen.Seen.{Seen}
use Rattle.fzn_lexer.specs.declared.seen.Seen.TheVariants.{Known}
use Rattle.fzn_lexer.specs.declared.kind.Kind.{Kind}
use Rattle.fzn_lexer.specs.declared.kind.Kind.TheVariants as kind
use Rattle.fzn_reader.specs.declared.code.Code.{Code}
use Rattle.fzn_reader.specs.declared.code.Code.TheVariants as code
use Rattle.fzn_reader.specs.declared.refused.Refused.{Refused}

-- one rule behind the other: what the first refuses is refused
infixl 10 ◌>>=◌
abbrev pub ◌>>=◌ : {A B : Type 0} → Result A Refused → (A → Result B Refused) → Result B Refused
(Ok x) >>= f = f x
(Err e) >>= f = Err e

-- the refusal that this token shows
abbrev pub refusal : Code → Spot → Refused
refusal c s = record { code = c; line = s.line; from = s.from; to = s.to }

-- the first of these tokens shows a refusal
abbrev pub refuse : {A : Type 0} → Code → List Spot → Result A Refused
refuse c ts = Err (refusal c (first ts))

-- what the first token stands for, and the tokens behind it; where it stands for nothing it shows the refusal
abbrev pub value_or : {A : Type 0} → Code → Option A → List Spot → Result (A × List Spot) Refused
value_or c None ts = refuse c ts
value_or c (Some x) ts = Ok (x, after_first ts)

-- a token of this kind
abbrev pub is_kind : Kind → Seen → Bool
is_kind kind.Word (Known kind.Word) = true
is_kind kind.Number (Known kind.Number) = true
is_kind kind.Real (Known kind.Real) = true
is_kind kind.Text (Known kind.Text) = true
is_kind kind.Mark (Known kind.Mark) = true
is_kind k s = false

-- a token of this kind and spelling
abbrev pub is_spelled : Kind → List ℕ → Spot → Bool
is_spelled k text s = is_kind k s.seen && bytes_eq s.text text

-- the first token is this mark
abbrev pub is_mark : List ℕ → List Spot → Bool
is_mark text ts = is_spelled kind.Mark text (first ts)

-- the first token is this word
abbrev pub is_word : List ℕ → List Spot → Bool
is_word text ts = is_spelled kind.Word text (first ts)

-- this mark
unfoldable pub mark_at : List ℕ → List Spot → Result (List Spot) Refused
mark_at text ts = if is_mark text ts then Ok (after_first ts) else refuse code.Syntax ts

-- this word
unfoldable pub word_at : List ℕ → List Spot → Result (List Spot) Refused
word_at text ts = if is_word text ts then Ok (after_first ts) else refuse code.Syntax ts

-- the words that are no names (MiniZinc Handbook, FlatZinc: reserved words, as far as this project's grammar has them)
abbrev pub is_reserved : List ℕ → Bool
is_reserved w =
    bytes_eq w (codes "array") || bytes_eq w (codes "bool") || bytes_eq w (codes "constraint") || bytes_eq w (codes "false") || bytes_eq w (codes "float") || bytes_eq w (codes "int") || bytes_eq w (codes "maximize") || bytes_eq w (codes "minimize") || bytes_eq w (codes "of") || bytes_eq w (codes "predicate") || bytes_eq w (codes "satisfy") || bytes_eq w (codes "set") || bytes_eq w (codes "solve") || bytes_eq w (codes "true") || bytes_eq w (codes "var")

-- name: a word that isn't reserved
unfoldable pub name_at : List Spot → Result (List ℕ × List Spot) Refused
name_at ts = if is_kind kind.Word (first ts).seen && not (is_reserved (first ts).text) then Ok ((first ts).text, after_first ts) else refuse code.Syntax ts

-- a comma; or the closing mark, which stays
unfoldable pub separator_at : List ℕ → List Spot → Result (List Spot) Refused
separator_at close ts = if is_mark close ts then Ok ts else mark_at (codes ",") ts

-- { X }, the braces of the grammar: one step after the other, each adding to the value s, until it stops; at most n
-- times, where n is more than any file has tokens
unfoldable pub repeat : {S : Type 0} → (S → List Spot → Bool) → (S → List Spot → Result (S × List Spot) Refused) → ℕ → S → List Spot → Result (S × List Spot) Refused
repeat stop step zero s ts = refuse code.Syntax ts
repeat stop step (suc n) s ts = if stop s ts then Ok (s, ts) else (step s ts >>= λ x. repeat stop step n x.0 x.1)

-- more than the tokens of any file
abbrev pub most : ℕ
most = 67108865

-- no comma stands here
abbrev pub no_comma : {S : Type 0} → S → List Spot → Bool
no_comma s ts = not (is_mark (codes ",") ts)

-- "," X
unfoldable pub next_at : {S : Type 0} → (S → List Spot → Result (S × List Spot) Refused) → S → List Spot → Result (S × List Spot) Refused
next_at step s ts = mark_at (codes ",") ts >>= λ rest. step s rest

-- { "," X }
unfoldable pub more_at : {S : Type 0} → (S → List Spot → Result (S × List Spot) Refused) → S → List Spot → Result (S × List Spot) Refused
more_at step s ts = repeat no_comma (next_at step) most s ts

-- [ X { "," X } ], up to the closing mark, which stays
unfoldable pub separated_at : {S : Type 0} → List ℕ → (S → List Spot → Result (S × List Spot) Refused) → S → List Spot → Result (S × List Spot) Refused
separated_at close step s ts = if is_mark close ts then Ok (s, ts) else (step s ts >>= λ x. more_at step x.0 x.1)
