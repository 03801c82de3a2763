-- Paths of the search tree: lists of decisions, the assignments that meet them, and what it is that a path is settled. They
-- are this project's own.
use Rattle.std.specs.Prelude.{◌≡◌, Bool, true, not, int_le, if◌then◌else◌, List, ◌++◌, slice_index_or, ℤ, pos, ◌≤ℤ◌, ◌<ℤ◌, Any}
use Rattle.std.specs.List.{list_all}
use Rattle.fzn_model.specs.Parts.{Parts}
use Rattle.fzn_model.specs.Solutions.{Solves, cost}
use Rattle.search_core.specs.declared.decision.Decision.{Decision}

-- whether the decision allows the value of its variable: x <= at, or x > at where up
abbrev pub allows : Decision → ℤ → Bool
allows d z = if d.up then not (int_le z d.at) else int_le z d.at

-- whether the assignment obeys the decision; a variable that it lacks counts as 0
abbrev pub obeys : Decision → List ℤ → Bool
obeys d θ = allows d (slice_index_or θ d.var (pos 0))

-- the other side of a cut
abbrev pub opposite : Decision → Decision
opposite d = record { var = d.var; at = d.at; up = not d.up }

-- whether each decision is obeyed
unfoldable pub meets : List Decision → List ℤ → Bool
meets p θ = list_all (λ d. obeys d θ) p

unfoldable pub Meets : List Decision → List ℤ → Type 0
Meets p θ = meets p θ ≡ true

-- the second path begins with the first: it is a path under it, or the same
pub record Begins (p q : List Decision) : Type 0 where
  pub rest : List Decision
  pub joined : q ≡ p ++ rest

-- no solution that meets the path costs less than the bound
unfoldable pub Settled : Parts → List Decision → ℤ → Type 0
Settled m p b = (θ : List ℤ) → Solves m θ → Meets p θ → b ≤ℤ cost m θ

-- each solution that meets the path and costs less than the bound meets one of the paths that were given away
unfoldable pub SettledBut : Parts → List Decision → ℤ → List (List Decision) → Type 0
SettledBut m p b given = (θ : List ℤ) → Solves m θ → Meets p θ → cost m θ <ℤ b → Any (λ q. Meets q θ) given
