use Rattle.rest_key.proofs.WeakerLaw.{dominates_includes}
use Rattle.rest_key.proofs.laws.dominance_is_inclusion.Goals as goal

pub returns : goal.returns
returns c = dominates_includes
