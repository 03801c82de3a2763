-- What is sought:
--   "solve" { "::" ann } ( "satisfy" | ( "minimize" | "maximize" ) expr )
use Rattle.std.specs.Prelude.{ℕ, List, Bool, Option, Some, None, Result, Ok, if◌then◌else◌, ◌||◌, codes, is_some}
use Rattle.std.specs.Str.{bytes_eq}
use Rattle.fzn_lexer.specs.Spots.{Spot, first, after_first}
use Rattle.fzn_model.specs.declared.goal.Goal.{Goal}
use Rattle.fzn_model.specs.declared.goal.Goal.TheVariants as goal
use Rattle.fzn_reader.specs.declared.scalar.Scalar.TheVariants.{IntTerm}
use Rattle.fzn_reader.specs.declared.code.Code.TheVariants as code
use Rattle.fzn_reader.specs.declared.refused.Refused.{Refused}
use Rattle.fzn_reader.specs.Refusals.{◌>>=◌, refuse, is_word}
use Rattle.fzn_reader.specs.Names.{Names}
use Rattle.fzn_reader.specs.Scalars.{scalar_at}
use Rattle.fzn_reader.specs.Annotations.{ann_at, annotations_at}
use Rattle.fzn_reader.specs.Drafts.{Stated, with_goal}

-- the names of search annotations
abbrev pub is_search : List ℕ → Bool
is_search name = bytes_eq name (codes "int_search") || bytes_eq name (codes "bool_search") || bytes_eq name (codes "seq_search")

-- the tokens of the first search annotation, from its name on
abbrev pub first_search : Option (List Spot) → List Spot → Option (List Spot)
first_search (Some found) ts = Some found
first_search None ts = if is_search (first ts).text then Some ts else None

-- an annotation of `solve`
unfoldable pub solve_ann : Option (List Spot) → List Spot → Result (Option (List Spot) × List Spot) Refused
solve_ann found ts = ann_at ts >>= λ rest. Ok (first_search found ts, rest)

-- "satisfy" | ( "minimize" | "maximize" ) expr
unfoldable pub goal_at : Names → List Spot → Result (Goal × List Spot) Refused
goal_at names ts =
    if is_word (codes "satisfy") ts then Ok (goal.Satisfy, after_first ts)
    else (if is_word (codes "minimize") ts then (scalar_at IntTerm names (after_first ts) >>= λ x. Ok (goal.Minimise x.0, x.1))
    else (if is_word (codes "maximize") ts then (scalar_at IntTerm names (after_first ts) >>= λ x. Ok (goal.Maximise x.0, x.1))
    else refuse code.Syntax ts))

-- "solve" .., from its "solve" on, which shows where it is the second
unfoldable pub solve_at : Stated → List Spot → Result (Stated × List Spot) Refused
solve_at d ts = if is_some d.goal then refuse code.TwoSolves ts else (do
  search ← annotations_at solve_ann None (after_first ts)
  sought ← goal_at d.names search.1
  Ok (with_goal d sought.0 search.0, sought.1))
