use Rattle.rest_global.proofs.RestLaw.{rest_law}
use Rattle.rest_global.proofs.laws.rests_keep_solutions.Goals as goal

pub returns : goal.returns
returns c = rest_law
