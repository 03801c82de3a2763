use Rattle.rest_global.proofs.UniqueRest.{rest_alone}
use Rattle.rest_global.proofs.laws.rests_are_unique.Goals as goal

pub returns : goal.returns
returns c = rest_alone
