-- What the walk over a list of terms has found so far.
use Rattle.std.specs.Prelude.{◌≡◌, ◌<◌, List, ℤ, Option, Some, None, length}
use Rattle.fzn_model.specs.declared.term.Term.{Term}
use Rattle.fzn_model.specs.declared.term.Term.TheVariants as term
use Rattle.fzn_model.specs.declared.pick.VarBy.{VarBy}
use Rattle.brancher.specs.Branching.{AreFixed, rank, IsFirstBest}
use Rattle.brancher.specs.declared.best.Best.{Best}

-- none, where each term is fixed; or the open variable that ranks first, with its rank
unfoldable pub IsBestOf : List (List ℤ) → VarBy → List Term → Option Best → Type 0
IsBestOf box by ts None = AreFixed box ts
IsBestOf box by ts (Some b) = IsFirstBest box by ts b.var × (b.rank ≡ rank box by (term.Var b.var)) × (b.var < length box)
