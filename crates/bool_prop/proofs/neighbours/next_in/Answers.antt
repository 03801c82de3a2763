use Rattle.std.proofs.Common.{◌≡◌, ◌∙◌, List, ℤ, pos, get_or, subst, rules, FitsSigned}
use Rattle.std.specs.Int.{w64, int_max}
use Rattle.std.proofs.lemmas.Int.{to_z-of_z}
use Rattle.bool_prop.proofs.Runs.{next_is}
use Rattle.bool_prop.proofs.neighbours.next_in.Goals as goal

pub returns-clause-some : goal.returns-clause-some
returns-clause-some c =
    let low : FitsSigned w64 c.args.low.now = search rules in
    let found : FitsSigned w64 c.first_from.result = search rules in
    let first : c.first_from.result ≡ int_max (get_or c.args.set.now c.first_reaching-at.result (pos 0, pos 0)).0 c.args.low.now = subst (λ (rs : List (ℤ × ℤ)). c.first_from.result ≡ int_max (get_or rs c.first_reaching-at.result (pos 0, pos 0)).0 c.args.low.now) (c.as_slice-runs.ensures ∙ c.set.view_is) (simp to_z-of_z at c.first_from.ensures) in
    simp to_z-of_z (next_is c.args.set.now c.args.low.now c.first_from.result c.first_reaching-at.result c.requires c.first_reaching-at.ensures (search rules) first)
