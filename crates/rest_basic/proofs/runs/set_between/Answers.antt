use Rattle.std.specs.Prelude.{◌≤ℤ◌}
use Rattle.rest_basic.proofs.GatheredRuns.{clipped_runs, domain_order}
use Rattle.rest_basic.proofs.runs.set_between.Goals as goal

pub invariant_of-result : goal.invariant_of-result
invariant_of-result g c =
    let order : c.args.bounds.now.0 ≤ℤ c.args.bounds.now.1 = rw (c.requires.low, c.requires.high) (domain_order (g.V.BoxView.shape c.args.view.now) c.args.x c.requires.well_formed) in
    let are = clipped_runs c.args.bounds.now.0 c.args.bounds.now.1 c.as_slice.result.now order (rw c.as_slice.ensures c.set.invariant) in
    rw c.in_ok-clipped.ensures are
