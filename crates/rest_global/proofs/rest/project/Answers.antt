use Rattle.std.proofs.Common.{subst}
use Rattle.fzn_model.specs.Limits.{IsModel}
use Rattle.rest_global.proofs.MadeRest.{projected_means}
use Rattle.rest_global.proofs.rest.project.Goals as goal

pub returns-clause-means : goal.returns-clause-means
returns-clause-means g c =
    let model : IsModel c.args.model.now = subst IsModel c.model.view_is c.model.invariant in
    projected_means (g.V.BoxView.shape c.args.view.now) c.args.model.now c.args.below c.args.limit _ c.in_ok-numbering.ensures.well_formed model c.requires.within (c.in_ok-answer.ensures c.args.below)
