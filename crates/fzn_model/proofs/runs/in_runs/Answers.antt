use Rattle.std.proofs.Common.{arith}
use Rattle.fzn_model.proofs.Reaching.{in_first, first_in}
use Rattle.fzn_model.proofs.runs.in_runs.Goals as goal

pub returns-then-place-runs : goal.returns-then-place-runs
returns-then-place-runs c =
    let first = c.first_reaching-place.ensures in
    (λ h. (cc), λ is_in. absurd (omega (arith, (first_in _ _ _ c.requires first is_in).0)))

pub returns : goal.returns
returns c =
    let first = c.first_reaching-place.ensures in
    (λ h. in_first _ _ _ _ first (omega (arith, first.bound, c.if-place-runs.false)) (c.begins_by.ensures.0 h), λ is_in. c.begins_by.ensures.1 ((first_in _ _ _ c.requires first is_in).1 _))
