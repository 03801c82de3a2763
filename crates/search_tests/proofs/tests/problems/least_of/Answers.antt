use Rattle.std.proofs.Common.{◌≤ℤ◌, ℤ, pos, ◌≡◌, List, [], ◌∷◌, ◌++◌, ap, ◌∙◌}
use Rattle.std.specs.Int.Signed.{≤ℤ_refl}
use Rattle.search_tests.proofs.Least.{least_true}
use Rattle.search_tests.proofs.tests.problems.least_of.Goals as goal

same : (z : ℤ) → z ≤ℤ z
same z = ≤ℤ_refl z

pub returns : goal.returns
returns c =
    let doms : c.push.new.self ≡ (c.args.run.now ∷ []) ∷ [] =
    c.in_ok-push.ensures.ok ∙ ap (λ (ds : List (List (ℤ × ℤ))). ds ++ c.in_ok-runs.runs ∷ []) c.new-doms.ensures ∙ ap (λ (runs : List (ℤ × ℤ)). runs ∷ []) c.in_ok-runs.ensures in
    least_true (record { doms = c.push.new.self; cost = c.in_ok-cost.cost; cons = c.new.result; labels = c.new-2.result }) c.args.run.now.0 c.args.run.now.1 [] doms c.in_ok-cost.ensures c.args.run.now.0 (same c.args.run.now.0)
