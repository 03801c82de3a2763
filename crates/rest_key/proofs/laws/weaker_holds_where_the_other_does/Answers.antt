use Rattle.rest_key.proofs.WeakerLaw.{weaker_holds}
use Rattle.rest_key.proofs.laws.weaker_holds_where_the_other_does.Goals as goal

pub returns : goal.returns
returns c = weaker_holds
