-- The goal over a box, and solutions that cost less than a bound.
use Rattle.std.specs.Prelude.{◌↔◌, List, ℤ, pos, neg_ℤ, ◌<ℤ◌, All}
use Rattle.fzn_model.specs.declared.con.Con.{Con}
use Rattle.fzn_model.specs.declared.goal.Goal.{Goal}
use Rattle.fzn_model.specs.declared.goal.Goal.TheVariants as goal
use Rattle.fzn_model.specs.Meaning.{Holds}
use Rattle.fzn_model.specs.Solutions.{goal_cost}
use Rattle.fzn_model.specs.Limits.{IsValue}
use Rattle.dom_store.specs.Narrowing.{HasNone}
use Rattle.fzn_model.specs.Bounds.{term_low, term_high}
use Rattle.dom_store.specs.declared.pass.Passed.{Passed}
use Rattle.dom_store.specs.declared.pass.Passed.TheVariants as passed

-- each constraint holds, and the cost is less than the bound
pub record IsCheaper (cons : List Con) (g : Goal) (below : ℤ) (θ : List ℤ) : Type 0 where
  pub holds : All (λ c. Holds c θ) cons
  pub cheaper : goal_cost g θ <ℤ below

-- the greatest cost that the goal's domain in the box allows
abbrev pub greatest_cost : List (List ℤ) → Goal → ℤ
greatest_cost box goal.Satisfy = pos 0
greatest_cost box (goal.Minimise t) = term_high box t
greatest_cost box (goal.Maximise t) = neg_ℤ (term_low box t)

-- the cost is less than the bound
unfoldable pub IsBelow : Goal → ℤ → List ℤ → Type 0
IsBelow g below θ = goal_cost g θ <ℤ below

-- what cutting the goal means: no cost that the goal's domain allows reaches the bound; or each cost of the box does
unfoldable pub CutMeans : Goal → ℤ → List (List ℤ) → List (List ℤ) → Passed → Type 0
CutMeans g below old new passed.Done = greatest_cost new g <ℤ below
CutMeans g below old new passed.Empty = HasNone (IsBelow g below) old

-- a bound that lets the same costs through
unfoldable pub SameBound : ℤ → ℤ → Type 0
SameBound below near = (c : ℤ) → IsValue c → (c <ℤ below) ↔ (c <ℤ near)
