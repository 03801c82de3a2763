use Rattle.std.proofs.Common.{rules, subst, FitsSigned, w64}
use Rattle.std.proofs.lemmas.Int.{to_z-of_z}
use Rattle.fzn_model.specs.Limits.{IsModel}
use Rattle.solver.proofs.Starting.{top_bound}
use Rattle.solve_tests.proofs.tests.parts.explored.Goals as goal

pub new-requires-2-clause-top : goal.new-requires-2-clause-top
new-requires-2-clause-top c = let fits : FitsSigned w64 c.top_of-top.result = search rules in rw (to_z-of_z w64 c.top_of-top.result fits) (top_bound c.args.model.now c.top_of-top.result (subst IsModel c.model.view_is c.model.invariant) c.top_of-top.ensures.greatest)
