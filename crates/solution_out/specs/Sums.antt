-- What is printed for the answer of a model that was made from a number: this project's own.
use Rattle.std.specs.Prelude.{ℕ, List, ◌++◌, ℤ, pos, codes}
use Rattle.std.specs.Fmt.{signed_decimal}
use Rattle.fzn_model.specs.Parts.{Parts}
use Rattle.fzn_model.specs.Meaning.{val}
use Rattle.fzn_model.specs.declared.goal.Goal.{Goal}
use Rattle.fzn_model.specs.declared.goal.Goal.TheVariants as goal
use Rattle.incumbent_board.specs.declared.answer.Answer.{Answer}
use Rattle.incumbent_board.specs.declared.answer.Answer.TheVariants as answer

-- the value that the goal minimises or maximises, 0 where it does neither
unfoldable pub goal_value : Goal → List ℤ → ℤ
goal_value goal.Satisfy θ = pos 0
goal_value (goal.Minimise t) θ = val t θ
goal_value (goal.Maximise t) θ = val t θ

-- what is known of the model, and the goal's value in a solution that none beats
unfoldable pub verdict_text : Goal → Answer → List ℕ
verdict_text g answer.Unsat = codes "verdict unsatisfiable\n"
verdict_text g (answer.Sat θ) = codes "verdict satisfied\n"
verdict_text g (answer.Best θ) = codes "verdict optimal\n" ++ codes "optimum " ++ signed_decimal (goal_value g θ) ++ codes "\n"
verdict_text g (answer.Undecided found why) = codes "verdict undecided\n"

-- The number as it was given, and what is known of the model made from it.
abbrev pub sums : List ℕ → Parts → Answer → List ℕ
sums word m a = codes "make " ++ word ++ codes "\n" ++ verdict_text m.goal a
