use Rattle.rest_forms.proofs.GlobalLaw.{global_unique}
use Rattle.rest_forms.proofs.laws.global_forms_are_unique.Goals as goal

pub returns : goal.returns
returns c = global_unique
