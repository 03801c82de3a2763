-- When an answer is right. No propagation, no cache, no order of search and no thread stands here: solutions are the
-- assignments within the domains under which each constraint holds.
use Rattle.std.specs.Prelude.{◌≡◌, ℕ, List, ℤ, ◌≤ℤ◌, Some, None, ⊤, length}
use Rattle.fzn_model.specs.Parts.{Parts}
use Rattle.fzn_model.specs.Solutions.{Solves, cost}
use Rattle.fzn_model.specs.declared.goal.Goal.TheVariants as goal
use Rattle.incumbent_board.specs.declared.answer.Answer.{Answer}
use Rattle.incumbent_board.specs.declared.answer.Answer.TheVariants as answer

-- a solution that no other one beats
pub record IsBest (m : Parts) (θ : List ℤ) : Type 0 where
  pub solves : Solves m θ
  pub least : (φ : List ℤ) → Solves m φ → cost m θ ≤ℤ cost m φ

-- The answer is right.
abbrev pub Right : Parts → Answer → Type 0
Right m answer.Unsat = (θ : List ℤ) → Solves m θ → ⊥
Right m (answer.Sat θ) = (m.goal ≡ goal.Satisfy) × Solves m θ
Right m (answer.Best θ) = (m.goal ≡ goal.Satisfy → ⊥) × IsBest m θ
Right m (answer.Undecided None why) = ⊤
Right m (answer.Undecided (Some θ) why) = (m.goal ≡ goal.Satisfy → ⊥) × Solves m θ

-- The answer is of a kind that says what listing all assignments would say, where it is right.
abbrev pub IsDecided : Answer → Type 0
IsDecided answer.Unsat = ⊤
IsDecided (answer.Sat θ) = ⊤
IsDecided (answer.Best θ) = ⊤
IsDecided (answer.Undecided θ why) = ⊥

-- a solution in the answer has a value for each of n variables
abbrev pub AnswerFits : ℕ → Answer → Type 0
AnswerFits n answer.Unsat = ⊤
AnswerFits n (answer.Sat θ) = length θ ≡ n
AnswerFits n (answer.Best θ) = length θ ≡ n
AnswerFits n (answer.Undecided None why) = ⊤
AnswerFits n (answer.Undecided (Some θ) why) = length θ ≡ n
