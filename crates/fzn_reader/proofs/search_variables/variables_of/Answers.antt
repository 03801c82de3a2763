use Rattle.std.proofs.Common.{arith}
use Rattle.fzn_reader.proofs.search_variables.variables_of.Goals as goal

pub returns-clause-kept : goal.returns-clause-kept
returns-clause-kept c = λ n p. c.in_ok-add_variables.ensures.kept n p (rw c.new-vars.ensures (λ k t h. absurd (omega arith)))
