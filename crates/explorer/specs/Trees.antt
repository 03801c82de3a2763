-- What one worker did, as a tree of the nodes that it came to, and the lines of a log that tell it. It is this project's own.
use Rattle.std.specs.Prelude.{◌≡◌, ℕ, suc, List, [], ◌∷◌, ◌++◌, map, ℤ, Some, None}
use Rattle.std.specs.Int.{int_min}
use Rattle.std.specs.declared.option.Option.{Option}
use Rattle.fzn_model.specs.Rests.{RestParts}
use Rattle.search_core.specs.declared.decision.Decision.{Decision}
use Rattle.run_log.specs.declared.line.LogLine.TheVariants as line
use Rattle.run_log.specs.Texts.{Line, plain, with_rest, with_values}

-- what is known of a node's residual problem: it, with its offset; or how many words it has, too many to look it up
pub data Asked : Type 0 where
  rest : ℤ → RestParts → Asked
  wide : ℕ → Asked

-- the bound that was seen at a node, and its residual problem
pub record Head : Type 0 where
  pub seen : ℤ
  pub asked : Asked

-- what was stored of a node: at which place, and with which bound
pub record StoredAt : Type 0 where
  pub place : ℕ
  pub bound : ℤ

-- a node that was expanded: the places whose entries were gone, and the cut
pub record Opened : Type 0 where
  pub head : Head
  pub gone : List ℕ
  pub cut : Decision

-- A node and those under it: a leaf, with the cost and the values of its solution where it has one; a node that was settled by
-- the entry of a place; or one that was expanded, with both sides, the one that the cut names first. Each is settled at a bound.
pub data Tree : Type 0 where
  leaf : Option (ℤ × List ℤ) → ℤ → Tree
  hit : ℤ → ℤ → RestParts → ℤ → ℕ → Tree
  join : Opened → Tree → Tree → ℤ → Option StoredAt → Tree

abbrev pub bound_of : Tree → ℤ
bound_of (leaf solution bound) = bound
bound_of (hit seen offset r bound place) = bound
bound_of (join o first second bound stored) = bound

-- ---- their lines
abbrev pub asked_line : Asked → Line
asked_line (rest offset r) = with_rest (line.Rest offset) r
asked_line (wide words) = plain (line.Wide words)

abbrev pub head_lines : ℕ → Head → List Line
head_lines depth h = plain (line.Node depth h.seen) ∷ asked_line h.asked ∷ []

abbrev pub solution_lines : Option (ℤ × List ℤ) → List Line
solution_lines None = []
solution_lines (Some (cost, values)) = with_values (line.Solution cost) values ∷ []

abbrev pub gone_lines : List ℕ → List Line
gone_lines places = map (λ place. plain (line.Gone place)) places

abbrev pub stored_lines : Option StoredAt → List Line
stored_lines None = []
stored_lines (Some s) = plain (line.Publish s.place s.bound) ∷ []

-- those of an expansion, before those of its sides
abbrev pub opened_lines : ℕ → Opened → List Line
opened_lines depth o = head_lines depth o.head ++ gone_lines o.gone ++ plain (line.Expand depth o.cut.var o.cut.at o.cut.up) ∷ []

-- the lines of a tree whose first node has so many decisions
unfoldable pub tree_lines : ℕ → Tree → List Line
tree_lines depth (leaf solution bound) = solution_lines solution ++ plain (line.Leaf depth bound) ∷ []
tree_lines depth (hit seen offset r bound place) = head_lines depth (record { seen = seen; asked = rest offset r }) ++ plain (line.Hit depth bound place) ∷ []
tree_lines depth (join o first second bound stored) = opened_lines depth o ++ tree_lines (suc depth) first ++ tree_lines (suc depth) second ++ plain (line.Join depth bound) ∷ stored_lines stored

-- ---- a search that isn't done
-- Where the lines stop: at a node of which there is no line yet; behind its solution, whose leaf is missing; behind a whole tree;
-- or in one of the sides of an expansion, in the second behind all of the first.
pub data Begun : Type 0 where
  nothing : Begun
  solved : ℤ → List ℤ → Begun
  whole : Tree → Begun
  in_first : Opened → Begun → Begun
  in_second : Opened → Tree → Begun → Begun

unfoldable pub begun_lines : ℕ → Begun → List Line
begun_lines depth nothing = []
begun_lines depth (solved cost values) = solution_lines (Some (cost, values))
begun_lines depth (whole t) = tree_lines depth t
begun_lines depth (in_first o b) = opened_lines depth o ++ begun_lines (suc depth) b
begun_lines depth (in_second o first b) = opened_lines depth o ++ tree_lines (suc depth) first ++ begun_lines (suc depth) b
