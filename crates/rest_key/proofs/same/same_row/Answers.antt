use Rattle.rest_key.proofs.EqualParts.{numbers_decide}
use Rattle.rest_key.proofs.same.same_row.Goals as goal

pub returns : goal.returns
returns c = numbers_decide _ _ _ c.eq.ensures
