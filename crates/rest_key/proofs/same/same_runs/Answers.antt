use Rattle.rest_key.proofs.EqualParts.{runs_decide}
use Rattle.rest_key.proofs.same.same_runs.Goals as goal

pub returns : goal.returns
returns c = runs_decide _ _ _ c.eq.ensures
