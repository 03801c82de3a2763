use Rattle.rest_forms.proofs.GlobalLaw.{global_suits}
use Rattle.rest_forms.proofs.laws.global_forms_suit_the_box.Goals as goal

pub returns : goal.returns
returns c = global_suits
