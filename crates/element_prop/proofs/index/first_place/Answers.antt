use Rattle.std.proofs.Common.{rules}
use Rattle.element_prop.proofs.Ending.{first_is_place}
use Rattle.element_prop.proofs.index.first_place.Goals as goal

pub returns-clause-place : goal.returns-clause-place
returns-clause-place c = first_is_place _ _ _ _ c.requires.well_formed c.requires.index c.requires.indexed (search rules)
