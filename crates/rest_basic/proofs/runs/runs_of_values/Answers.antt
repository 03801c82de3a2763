use Rattle.std.proofs.Common.{refl}
use Rattle.rest_basic.proofs.WholeDomains.{whole_runs}
use Rattle.rest_basic.proofs.runs.runs_of_values.Goals as goal

pub returns-then-is_whole : goal.returns-then-is_whole
returns-then-is_whole g c =
    let told = c.bounds_of-bounds.ensures in
    whole_runs (g.V.BoxView.shape c.args.view.now) c.args.x c.bounds_of-bounds.result c.in_ok-values.values told.well_formed told.low told.high (c.if-is_whole.ensures refl) c.in_ok-values.ensures
