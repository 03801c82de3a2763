-- Annotations, which are passed over:
--   ann     = name [ "(" [ annexpr { "," annexpr } ] ")" ]
--   annexpr = Text | Real | "true" | "false" | Number [ ".." Number ] | set | ann | annlist
--   annlist = "[" [ annexpr { "," annexpr } ] "]"
--   set     = "{" [ annexpr { "," annexpr } ] "}"
-- Brackets of one annotation stand at most 64 levels deep.
use Rattle.std.specs.Prelude.{ℕ, zero, suc, List, Bool, Result, Ok, if◌then◌else◌, not, codes}
use Rattle.fzn_lexer.specs.Spots.{Spot, first, after_first}
use Rattle.fzn_lexer.specs.declared.kind.Kind.TheVariants as kind
use Rattle.fzn_reader.specs.declared.ann_begin.AnnBegin.{AnnBegin}
use Rattle.fzn_reader.specs.declared.ann_begin.AnnBegin.TheVariants as begin
use Rattle.fzn_reader.specs.declared.begin.Begin.{Begin}
use Rattle.fzn_reader.specs.declared.begin.Begin.TheVariants as expr
use Rattle.fzn_reader.specs.declared.code.Code.TheVariants as code
use Rattle.fzn_reader.specs.declared.refused.Refused.{Refused}
use Rattle.fzn_reader.specs.Refusals.{◌>>=◌, refuse, is_kind, is_mark, mark_at, name_at, separated_at, repeat, most}
use Rattle.fzn_reader.specs.Exprs.{begins}

-- what begins within an annotation, by what begins outside and whether the token is a text
abbrev pub ann_begins_by : Begin → Bool → AnnBegin
ann_begins_by expr.Number text = begin.Number
ann_begins_by expr.Real text = begin.Leaf
ann_begins_by (expr.Truth b) text = begin.Leaf
ann_begins_by expr.Name text = begin.Name
ann_begins_by expr.Brace text = begin.Brace
ann_begins_by expr.Bracket text = begin.Bracket
ann_begins_by expr.Other text = if text then begin.Leaf else begin.Other

-- what begins here, within an annotation
abbrev pub ann_begins : List Spot → AnnBegin
ann_begins ts = ann_begins_by (begins ts) (is_kind kind.Text (first ts).seen)

-- Number, of any size
unfoldable pub any_number_at : List Spot → Result (List Spot) Refused
any_number_at ts = if is_kind kind.Number (first ts).seen then Ok (after_first ts) else refuse code.Syntax ts

-- Number [ ".." Number ], from its first Number on
unfoldable pub ann_number_at : List Spot → Result (List Spot) Refused
ann_number_at ts = if is_mark (codes "..") (after_first ts) then any_number_at (after_first (after_first ts)) else Ok (after_first ts)

-- what an opening mark opens, by its closing mark
abbrev pub Group : Type 0
Group = List ℕ → List Spot → Result (List Spot) Refused

-- name [ "(" .. ")" ], where `group` reads what the parenthesis opens
unfoldable pub ann_with : Group → List Spot → Result (List Spot) Refused
ann_with group ts = do
  name ← name_at ts
  if is_mark (codes "(") name.1 then group (codes ")") name.1 else Ok name.1

-- annexpr, by what begins here
abbrev pub annexpr_by : AnnBegin → Group → List Spot → Result (List Spot) Refused
annexpr_by begin.Number group ts = ann_number_at ts
annexpr_by begin.Leaf group ts = Ok (after_first ts)
annexpr_by begin.Name group ts = ann_with group ts
annexpr_by begin.Brace group ts = group (codes "}") ts
annexpr_by begin.Bracket group ts = group (codes "]") ts
annexpr_by begin.Other group ts = refuse code.Syntax ts

-- what is passed over adds nothing to a value
abbrev pub passing : (List Spot → Result (List Spot) Refused) → Unit {0} → List Spot → Result (Unit {0} × List Spot) Refused
passing read u ts = read ts >>= λ rest. Ok (tt, rest)

-- [ X { "," X } ] between an opening mark and its closing mark
unfoldable pub group_with : (List Spot → Result (List Spot) Refused) → Group
group_with member close ts = do
  members ← separated_at close (passing member) tt (after_first ts)
  mark_at close members.1

-- annexpr, in which so many levels may be opened
unfoldable pub annexpr_at : ℕ → List Spot → Result (List Spot) Refused
annexpr_at zero ts = annexpr_by (ann_begins ts) (λ close rest. refuse code.TooDeep rest) ts
annexpr_at (suc levels) ts = annexpr_by (ann_begins ts) (group_with (annexpr_at levels)) ts

-- what an opening mark opens, where so many levels may be opened
unfoldable pub group_at : ℕ → Group
group_at zero close ts = refuse code.TooDeep ts
group_at (suc levels) close ts = group_with (annexpr_at levels) close ts

-- ann
unfoldable pub ann_at : List Spot → Result (List Spot) Refused
ann_at ts = ann_with (group_at 64) ts

-- an annotation has arguments
abbrev pub has_arguments : List Spot → Bool
has_arguments ts = is_mark (codes "(") (after_first ts)

-- no annotation stands here
abbrev pub no_annotation : {S : Type 0} → S → List Spot → Bool
no_annotation s ts = not (is_mark (codes "::") ts)

-- "::" ann
unfoldable pub annotation_at : {S : Type 0} → (S → List Spot → Result (S × List Spot) Refused) → S → List Spot → Result (S × List Spot) Refused
annotation_at step s ts = mark_at (codes "::") ts >>= λ rest. step s rest

-- { "::" ann }, where `step` reads an annotation and adds what it says to the value
unfoldable pub annotations_at : {S : Type 0} → (S → List Spot → Result (S × List Spot) Refused) → S → List Spot → Result (S × List Spot) Refused
annotations_at step s ts = repeat no_annotation (annotation_at step) most s ts
