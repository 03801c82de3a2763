use Rattle.rest_key.proofs.EqualParts.{linear_terms_decide}
use Rattle.rest_key.proofs.same.same_linear_terms.Goals as goal

pub returns : goal.returns
returns c = linear_terms_decide _ _ _ c.eq.ensures
