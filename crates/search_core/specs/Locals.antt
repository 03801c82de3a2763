-- One worker's part of the search, and how it changes. It is this project's own.
use Rattle.std.specs.Prelude.{◌≡◌, ℕ, ◌+◌, List, [], ◌∷◌, ◌++◌, ℤ}
use Rattle.std.specs.Int.{int_min}
use Rattle.search_core.specs.declared.moves.Move.{Move}
use Rattle.search_core.specs.declared.moves.Move.TheVariants as move
use Rattle.search_core.specs.Paths.{opposite}
use Rattle.search_core.specs.Tasks.{Task, as_held, as_settled, Replaced, Joins}

-- What contracts see of it: the worker's number, the paths that it holds or has settled, the least cost that it has seen, and
-- how often it expanded a path.
pub record LocalParts : Type 0 where
  pub worker : ℕ
  pub tasks : List Task
  pub seen : ℤ
  pub expands : ℕ

-- a held path is taken out, and the ys are added
abbrev pub Turns : LocalParts → Task → List Task → LocalParts → Type 0
Turns old x ys new = (tasks : List Task) × Replaced old.tasks x ys tasks × (new ≡ record old { tasks = tasks })

-- What each move does, where it is allowed.
unfoldable pub LocalSteps : Move → LocalParts → LocalParts → Type 0
LocalSteps (move.Claim p) old new = new ≡ record old { tasks = old.tasks ++ as_held old.worker p ∷ [] }
LocalSteps (move.Give p) old new = Turns old (as_held old.worker p) [] new
LocalSteps (move.Expand p cut) old new = (tasks : List Task)
    × Replaced old.tasks (as_held old.worker p) (as_held old.worker (p ++ cut ∷ []) ∷ as_held old.worker (p ++ opposite cut ∷ []) ∷ []) tasks
    × (new ≡ record old { tasks = tasks; expands = old.expands + 1 })
LocalSteps (move.Hit p) old new = Turns old (as_held old.worker p) (as_settled old.worker old.seen p ∷ []) new
LocalSteps (move.Leaf p) old new = Turns old (as_held old.worker p) (as_settled old.worker old.seen p ∷ []) new
LocalSteps (move.Join p cut) old new = (tasks : List Task)
    × Joins old.worker p (p ++ cut ∷ []) (p ++ opposite cut ∷ []) old.tasks tasks
    × (new ≡ record old { tasks = tasks })
LocalSteps (move.Offer cost) old new = new ≡ record old { seen = int_min old.seen cost }
LocalSteps (move.See seen) old new = new ≡ record old { seen = seen }
LocalSteps (move.Return p) old new = Turns old (as_held old.worker p) [] new

-- the move isn't allowed: a path that it needs isn't held, or sides that it joins aren't settled
unfoldable pub IsBarred : Move → LocalParts → Type 0
IsBarred step old = (new : LocalParts) → LocalSteps step old new → ⊥
