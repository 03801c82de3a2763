use Rattle.rest_forms.proofs.GlobalLaw.{global_law}
use Rattle.rest_forms.proofs.laws.global_forms_mean_the_same.Goals as goal

pub returns : goal.returns
returns c = λ box c form well_formed fits_box is θ lies. global_law box c form θ well_formed lies fits_box is
