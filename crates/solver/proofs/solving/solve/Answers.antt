use Rattle.std.proofs.Common.{refl}
use Rattle.solver.proofs.Starting.{none_solves}
use Rattle.solver.proofs.solving.solve.Goals as goal

pub returns-in_default-clause-right : goal.returns-in_default-clause-right
returns-in_default-clause-right c = λ c' θ s. none_solves c'.args.model.now (c'.in_ok-bench.ensures.none.0 (rw c'.in_default.is refl)) θ s
