-- All that is printed when a run has ended: this project's own order.
use Rattle.std.specs.Prelude.{ℕ, List, [], ◌++◌, Bool, true, false, Option, Some, None}
use Rattle.fzn_model.specs.Parts.{Parts}
use Rattle.incumbent_board.specs.declared.answer.Answer.{Answer}
use Rattle.incumbent_board.specs.declared.outcome.Outcome.{Outcome}
use Rattle.solution_out.specs.Shows.{shows}
use Rattle.solution_out.specs.Stats.{stats}
use Rattle.solution_out.specs.Sums.{sums}

-- the answer; of a model that was made from a number, the number and what is known of it
unfoldable pub answer_text : Option (List ℕ) → Parts → Answer → List ℕ
answer_text None m a = shows m a
answer_text (Some word) m a = sums word m a

-- the counts, where they are asked for
unfoldable pub stats_text : Bool → Outcome → List ℕ
stats_text false o = []
stats_text true o = stats o

-- The answer, and then the counts where they are asked for.
abbrev pub outcome_text : Option (List ℕ) → Bool → Parts → Outcome → List ℕ
outcome_text word counts m o = answer_text word m o.answer ++ stats_text counts o
