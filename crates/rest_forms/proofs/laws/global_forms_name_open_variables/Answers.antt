use Rattle.rest_forms.proofs.GlobalLaw.{global_open}
use Rattle.rest_forms.proofs.laws.global_forms_name_open_variables.Goals as goal

pub returns : goal.returns
returns c = global_open
