-- Expressions:
--   expr = "true" | "false" | Number | Number ".." Number | "{" [ Number { "," Number } ] "}" | name | list
-- Each place needs a type; what stands there is told by what begins at the first token, one line of a table each.
use Rattle.std.specs.Prelude.{ℕ, List, true, false, if◌then◌else◌, codes}
use Rattle.std.specs.Str.{bytes_eq}
use Rattle.fzn_lexer.specs.Spots.{Spot, first}
use Rattle.fzn_lexer.specs.declared.seen.Seen.{Seen}
use Rattle.fzn_lexer.specs.declared.seen.Seen.TheVariants.{Known, End, Bad}
use Rattle.fzn_lexer.specs.declared.kind.Kind.TheVariants as kind
use Rattle.fzn_reader.specs.declared.begin.Begin.{Begin}
use Rattle.fzn_reader.specs.declared.begin.Begin.TheVariants as begin
use Rattle.fzn_reader.specs.Refusals.{is_reserved}

-- what a word begins: a name, `true` or `false`; another reserved word begins no expression
abbrev pub word_begins : List ℕ → Begin
word_begins w = if bytes_eq w (codes "true") then begin.Truth true else (if bytes_eq w (codes "false") then begin.Truth false else (if is_reserved w then begin.Other else begin.Name))

-- what a mark begins
abbrev pub mark_begins : List ℕ → Begin
mark_begins m = if bytes_eq m (codes "{") then begin.Brace else (if bytes_eq m (codes "[") then begin.Bracket else begin.Other)

-- what a token begins
abbrev pub token_begins : Seen → List ℕ → Begin
token_begins (Known kind.Word) text = word_begins text
token_begins (Known kind.Number) text = begin.Number
token_begins (Known kind.Real) text = begin.Real
token_begins (Known kind.Text) text = begin.Other
token_begins (Known kind.Mark) text = mark_begins text
token_begins End text = begin.Other
token_begins Bad text = begin.Other

-- what begins here
unfoldable pub begins : List Spot → Begin
begins ts = token_begins (first ts).seen (first ts).text
