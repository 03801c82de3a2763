use Rattle.rest_basic.proofs.FitLaw.{suit_law}
use Rattle.rest_basic.proofs.laws.forms_suit_the_box.Goals as goal

pub returns : goal.returns
returns c = suit_law
