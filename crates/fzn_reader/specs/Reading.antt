-- The whole file:
--   file = { item ";" }
--   item = "predicate" name "(" { any token but ";" } | ..
use Rattle.std.specs.Prelude.{ℕ, List, Bool, true, false, Option, Some, None, Result, Ok, Err, if◌then◌else◌, codes, length, nat_lt}
use Rattle.fzn_lexer.specs.Spots.{Spot, first, after_first}
use Rattle.fzn_lexer.specs.Passes.{spots_of}
use Rattle.fzn_lexer.specs.declared.seen.Seen.{Seen}
use Rattle.fzn_lexer.specs.declared.seen.Seen.TheVariants.{Known, End, Bad}
use Rattle.fzn_model.specs.declared.goal.Goal.{Goal}
use Rattle.fzn_model.specs.Parts.{Parts}
use Rattle.fzn_reader.specs.declared.code.Code.TheVariants as code
use Rattle.fzn_reader.specs.declared.refused.Refused.{Refused}
use Rattle.fzn_reader.specs.Refusals.{◌>>=◌, refuse, is_mark, is_word, mark_at, name_at, repeat, most}
use Rattle.fzn_reader.specs.Annotations.{passing}
use Rattle.fzn_reader.specs.Items.{parameter_at, variable_at, array_at}
use Rattle.fzn_reader.specs.Constraints.{constraint_at}
use Rattle.fzn_reader.specs.Solving.{solve_at}
use Rattle.fzn_reader.specs.Search.{order_of}
use Rattle.fzn_reader.specs.Drafts.{Stated, nothing}

-- any token, but no byte that begins none, nor the end of the input
abbrev pub token_by : Seen → List Spot → Result (List Spot) Refused
token_by (Known k) ts = Ok (after_first ts)
token_by End ts = refuse code.Syntax ts
token_by Bad ts = refuse code.Syntax ts

abbrev pub token_at : List Spot → Result (List Spot) Refused
token_at ts = token_by (first ts).seen ts

-- the item ends here
abbrev pub ends_item : {S : Type 0} → S → List Spot → Bool
ends_item s ts = is_mark (codes ";") ts

-- "predicate" name "(" { any token but ";" }, from its "predicate" on; it declares nothing
unfoldable pub predicate_at : List Spot → Result (Unit {0} × List Spot) Refused
predicate_at ts = do
  name ← name_at (after_first ts)
  open_ ← mark_at (codes "(") name.1
  repeat ends_item (passing token_at) most tt open_

-- An item, by its first word. One that begins with no other word is a parameter, or a refusal.
unfoldable pub item_at : Stated → List Spot → Result (Stated × List Spot) Refused
item_at d ts =
    if is_word (codes "predicate") ts then (predicate_at ts >>= λ x. Ok (d, x.1))
    else (if is_word (codes "var") ts then variable_at d ts
    else (if is_word (codes "array") ts then array_at d ts
    else (if is_word (codes "constraint") ts then constraint_at d ts
    else (if is_word (codes "solve") ts then solve_at d ts
    else parameter_at d ts))))

-- item ";"
unfoldable pub one_item : Stated → List Spot → Result (Stated × List Spot) Refused
one_item d ts = do
  item ← item_at d ts
  rest ← mark_at (codes ";") item.1
  Ok (item.0, rest)

-- the end of the input
abbrev pub is_end_by : Seen → Bool
is_end_by End = true
is_end_by (Known k) = false
is_end_by Bad = false

abbrev pub is_end : {S : Type 0} → S → List Spot → Bool
is_end s ts = is_end_by (first ts).seen

-- { item ";" }, to the end of the input
unfoldable pub items_at : List Spot → Result (Stated × List Spot) Refused
items_at ts = repeat is_end one_item most nothing ts

-- the model of what has been stated, where it is said what is sought
abbrev pub model_by : Stated → Option Goal → List Spot → Result Parts Refused
model_by d None ts = refuse code.NoSolve ts
model_by d (Some g) ts = Ok (record { doms = d.doms; cons = d.cons; goal = g; outs = d.outs; order = order_of d.names d.search })

-- the refusal of a file of more than 67,108,864 bytes, before all tokens
abbrev pub too_long : Refused
too_long = record { code = code.TooLong; line = 1; from = 0; to = 0 }

-- What a file of these bytes is: a model, or a refusal at the first token that shows one.
unfoldable pub reads : List ℕ → Result Parts Refused
reads bytes = if nat_lt 67108864 (length bytes) then Err too_long else (items_at (spots_of bytes) >>= λ all. model_by all.0 all.0.goal all.1)
