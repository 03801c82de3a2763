use Rattle.std.proofs.Common.{ℕ, ◌<◌}
use Rattle.fzn_model.specs.declared.term.Term.TheVariants as term
use Rattle.fzn_model.specs.Bounds.{IsFixed}
use Rattle.brancher.specs.Branching.{IsGoal}
use Rattle.brancher.proofs.choice.first_other.Given as goal

abbrev pub invariant-loop-var : goal.invariant-loop-var
invariant-loop-var g l = (k : ℕ) → k < l.var → (IsGoal l.goal k → ⊥) → IsFixed (g.V.BoxView.shape l.view) (term.Var k)
