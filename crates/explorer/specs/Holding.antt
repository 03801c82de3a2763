-- How often a worker holds a path. It is this project's own.
use Rattle.std.specs.Prelude.{◌≡◌, ◌==◌, ℕ, ◌+◌, Bool, false, true, not, ◌&&◌, List, [], ◌∷◌, if◌then◌else◌, ℤ, Contains}
use Rattle.std.specs.List.{count_by}
use Rattle.std.specs.Ordering.{int_eq}
use Rattle.search_core.specs.declared.decision.Decision.{Decision}
use Rattle.search_core.specs.declared.stand.Stand.{Stand}
use Rattle.search_core.specs.declared.stand.Stand.TheVariants as stand
use Rattle.search_core.specs.Tasks.{Task, as_settled}
use Rattle.search_core.specs.Locals.{LocalParts}

abbrev pub same_decision : Decision → Decision → Bool
same_decision d e = (d.var == e.var) && (int_eq d.at e.at && (if d.up then e.up else not e.up))

-- whether two paths have the same decisions
unfoldable pub same_path : List Decision → List Decision → Bool
same_path [] [] = true
same_path [] (e ∷ q) = false
same_path (d ∷ p) [] = false
same_path (d ∷ p) (e ∷ q) = same_decision d e && same_path p q

abbrev pub is_held_by : ℕ → Stand → Bool
is_held_by w stand.Open = false
is_held_by w (stand.Held v) = v == w
is_held_by w (stand.Settled v b) = false

-- whether a task is this path, held by the worker
abbrev pub is_hold : ℕ → List Decision → Task → Bool
is_hold w p t = is_held_by w t.stand && same_path p t.path

-- how often the worker holds the path
unfoldable pub times_held : List Decision → LocalParts → ℕ
times_held p l = count_by (is_hold l.worker p) l.tasks

-- how often the path stands in a list
unfoldable pub times_in : List Decision → List (List Decision) → ℕ
times_in p ps = count_by (same_path p) ps

-- the worker has settled the path
unfoldable pub HasSettled : List Decision → LocalParts → Type 0
HasSettled p l = (b : ℤ) × Contains l.tasks (as_settled l.worker b p)

-- Each path is held as often as before, but the given one once less.
abbrev pub LetsGo : List Decision → LocalParts → LocalParts → Type 0
LetsGo p old new = (q : List Decision) → times_held q new + times_in q (p ∷ []) ≡ times_held q old
