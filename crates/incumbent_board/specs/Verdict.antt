-- What listing all assignments would say of a model.
use Rattle.std.specs.Prelude.{◌≡◌, List, Some, None, ℤ, ◌≤ℤ◌}
use Rattle.std.specs.declared.option.Option.{Option}
use Rattle.fzn_model.specs.Parts.{Parts}
use Rattle.fzn_model.specs.Solutions.{Solves, cost}
use Rattle.fzn_model.specs.declared.goal.Goal.TheVariants as goal
use Rattle.incumbent_board.specs.declared.answer.Answer.{Answer}
use Rattle.incumbent_board.specs.declared.answer.Answer.TheVariants as answer

-- no solution; some solution, where any will do; or the least cost of a solution
pub data Verdict : Type 0 where
  unsatisfiable : Verdict
  satisfiable : Verdict
  least : ℤ → Verdict

-- a solution of this cost
pub record IsReached (m : Parts) (v : ℤ) : Type 0 where
  pub values : List ℤ
  pub solves : Solves m values
  pub cost_is : cost m values ≡ v

-- the verdict of the model
abbrev pub IsVerdict : Parts → Verdict → Type 0
IsVerdict m unsatisfiable = (θ : List ℤ) → Solves m θ → ⊥
IsVerdict m satisfiable = (m.goal ≡ goal.Satisfy) × ((θ : List ℤ) × Solves m θ)
IsVerdict m (least v) = (m.goal ≡ goal.Satisfy → ⊥) × IsReached m v × ((φ : List ℤ) → Solves m φ → v ≤ℤ cost m φ)

-- what an answer says; one that isn't decided says nothing
abbrev pub verdict_of : Parts → Answer → Option Verdict
verdict_of m answer.Unsat = Some unsatisfiable
verdict_of m (answer.Sat θ) = Some satisfiable
verdict_of m (answer.Best θ) = Some (least (cost m θ))
verdict_of m (answer.Undecided θ why) = None

-- the answer says the verdict of the model
abbrev pub SaysVerdict : Parts → Answer → Type 0
SaysVerdict m a = (v : Verdict) × (verdict_of m a ≡ Some v) × IsVerdict m v
