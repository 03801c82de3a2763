-- Where a task stands among others, and what is known where it doesn't. They are this project's own.
use Rattle.std.specs.Prelude.{◌≡◌, ℕ, ◌<◌, List, ◌++◌, length, slice_index_or, ℤ}
use Rattle.search_core.specs.declared.decision.Decision.{Decision}
use Rattle.search_core.specs.declared.tasks.Entry.{Entry}
use Rattle.search_core.specs.Tasks.{Task, as_settled, Replaced, Joins, task_of}

-- the second list is the first with more at the end
pub record Extends (old new : List (List Decision)) : Type 0 where
  pub more : List (List Decision)
  pub joined : new ≡ old ++ more

-- the entry at the place is this task
pub record IsPlace (paths : List (List Decision)) (entries : List Entry) (place : ℕ) (x : Task) : Type 0 where
  pub below : place < length entries
  pub same : (d : Entry) → task_of paths (slice_index_or entries place d) ≡ x

-- the entry at the place is this path, settled by the worker
pub record IsSettledPlace (paths : List (List Decision)) (entries : List Entry) (place w : ℕ) (p : List Decision) : Type 0 where
  pub bound : ℤ
  pub at : IsPlace paths entries place (as_settled w bound p)

-- the entry is this path, settled by the worker
pub record IsSettledBy (paths : List (List Decision)) (w : ℕ) (p : List Decision) (e : Entry) : Type 0 where
  pub bound : ℤ
  pub same : task_of paths e ≡ as_settled w bound p

-- the task can't be taken out, since it isn't there
unfoldable pub IsMissing : List Task → Task → Type 0
IsMissing tasks x = (ys new : List Task) → Replaced tasks x ys new → ⊥

-- the sides can't be joined
unfoldable pub CantJoin : ℕ → List Decision → List Decision → List Decision → List Task → Type 0
CantJoin w p first second old = (new : List Task) → Joins w p first second old new → ⊥
