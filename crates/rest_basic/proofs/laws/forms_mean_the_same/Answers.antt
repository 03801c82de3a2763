use Rattle.rest_basic.proofs.PlainLaw.{plain_law}
use Rattle.rest_basic.proofs.laws.forms_mean_the_same.Goals as goal

pub returns : goal.returns
returns c = λ box c well_formed fits_box plain θ lies. plain_law box c θ well_formed lies fits_box plain
