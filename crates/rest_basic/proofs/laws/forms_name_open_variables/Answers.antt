use Rattle.rest_basic.proofs.OpenLaw.{open_law}
use Rattle.rest_basic.proofs.laws.forms_name_open_variables.Goals as goal

pub returns : goal.returns
returns c = open_law
