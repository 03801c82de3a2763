use Rattle.std.proofs.Common.{arith, ap, length, subst}
use Rattle.fzn_model.specs.Sets.{AreRuns}
use Rattle.rest_key.proofs.RunsWithin.{within_some}
use Rattle.rest_key.proofs.sets.is_run_within.Goals as goal

pub returns-then-place-runs : goal.returns-then-place-runs
returns-then-place-runs c =
    let same = ap length c.as_slice-runs.ensures in
    let seen = ap length c.other.view_is in
    let are : AreRuns c.args.other.now = subst AreRuns c.other.view_is c.other.invariant in
    (λ h. (cc), λ w. absurd (omega (arith, same, seen, c.if-place-runs.true, within_some _ _ _ are c.requires c.first_reaching-place.ensures w)))
