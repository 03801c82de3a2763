use Rattle.std.proofs.Common.{◌≡◌, ℕ, drop}
use Rattle.std.specs.Prelude.{All}
use Rattle.fzn_model.specs.Limits.{TermIn}
use Rattle.fzn_reader.specs.Search.{with_variables}
use Rattle.fzn_reader.proofs.search_variables.add_variables.Given as goal

abbrev pub invariant-loop-term : goal.invariant-loop-term
invariant-loop-term l = record {
  told : with_variables l.vars (drop l.term-index l.terms) ≡ with_variables l.fn.vars l.terms;
  kept : (n : ℕ) → All (TermIn n) l.terms → All (TermIn n) l.fn.vars → All (TermIn n) l.vars;
}
