use Rattle.rest_key.proofs.EqualParts.{costs_decide}
use Rattle.rest_key.proofs.same.same_cost.Goals as goal

pub returns : goal.returns
returns c = costs_decide _ _ _ c.eq.ensures
