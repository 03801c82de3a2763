-- Tasks: paths that are open, held or settled, and what each change does to a list of them. They are this project's own.
use Rattle.std.specs.Prelude.{◌≡◌, ℕ, ◌<◌, List, [], ◌∷◌, ◌++◌, length, slice_index_or, map, ℤ, All}
use Rattle.std.specs.Int.{int_min}
use Rattle.search_core.specs.declared.decision.Decision.{Decision}
use Rattle.search_core.specs.declared.stand.Stand.{Stand}
use Rattle.search_core.specs.declared.stand.Stand.TheVariants as stand
use Rattle.search_core.specs.declared.tasks.Entry.{Entry}

-- a path, and how it stands: open, held by a worker, or settled by a worker at a bound
pub record Task : Type 0 where
  pub path : List Decision
  pub stand : Stand

abbrev pub as_open : List Decision → Task
as_open p = record { path = p; stand = stand.Open }

abbrev pub as_held : ℕ → List Decision → Task
as_held w p = record { path = p; stand = stand.Held w }

abbrev pub as_settled : ℕ → ℤ → List Decision → Task
as_settled w b p = record { path = p; stand = stand.Settled w b }

-- one x is taken out, wherever it stands, and the ys are added at the end
pub record Replaced (old : List Task) (x : Task) (ys new : List Task) : Type 0 where
  pub before : List Task
  pub after : List Task
  pub was : old ≡ before ++ x ∷ after
  pub «is» : new ≡ before ++ (after ++ ys)

-- the two sides that the worker settled go, and the path is settled at the lesser of their bounds
pub record Joins (w : ℕ) (p first second : List Decision) (old new : List Task) : Type 0 where
  pub a : ℤ
  pub b : ℤ
  pub middle : List Task
  pub first_goes : Replaced old (as_settled w a first) [] middle
  pub second_goes : Replaced middle (as_settled w b second) (as_settled w (int_min a b) p ∷ []) new

-- ---- how tasks are kept: the path of each is a node of a tree of decisions
abbrev pub task_of : List (List Decision) → Entry → Task
task_of paths e = record { path = slice_index_or paths e.node []; stand = e.stand }

unfoldable pub tasks_of : List (List Decision) → List Entry → List Task
tasks_of paths entries = map (task_of paths) entries

-- each path is a node of the tree
unfoldable pub AreNodes : List (List Decision) → List Entry → Type 0
AreNodes paths entries = All (λ e. e.node < length paths) entries
