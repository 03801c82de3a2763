use Rattle.std.proofs.Common.{◌≡◌, List, ℤ, subst, ◌∙◌}
use Rattle.rest_basic.specs.Gathered.{HasRunOver}
use Rattle.rest_basic.proofs.MemberForm.{enclosed}
use Rattle.rest_basic.proofs.member.is_enclosed.Goals as goal

pub returns-then-place-runs : goal.returns-then-place-runs
returns-then-place-runs c =
    let runs : c.as_slice-runs.result.now ≡ c.args.set.now = c.as_slice-runs.ensures ∙ c.set.view_is in
    λ e.
    let both = c.encloses.ensures.0 e in
    subst (λ (rs : List (ℤ × ℤ)). HasRunOver rs c.args.bounds.now.0 c.args.bounds.now.1) runs (enclosed c.as_slice-runs.result.now c.first_reaching-place.result _ c.args.bounds.now.0 c.args.bounds.now.1 c.if-place-runs.true both.0 both.1)
