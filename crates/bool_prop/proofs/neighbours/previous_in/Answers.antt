use Rattle.std.proofs.Common.{◌≡◌, ◌-◌, ◌∙◌, List, ℤ, pos, get_or, arith, subst, to_z, of_z, rules, FitsSigned}
use Rattle.std.specs.Int.{w64, int_min}
use Rattle.std.proofs.lemmas.Int.{ints, to_z-of_z}
use Rattle.bool_prop.specs.Neighbours.{BeginBy}
use Rattle.bool_prop.proofs.Runs.{previous_is}
use Rattle.bool_prop.proofs.neighbours.previous_in.Goals as goal

pub returns-clause-some : goal.returns-clause-some
returns-clause-some c =
    let high : FitsSigned w64 c.args.high.now = search rules in
    let found : to_z w64 (of_z w64 c.last_to.result) ≡ c.last_to.result = omega (arith, ints) in
    let begins : BeginBy c.args.set.now c.args.high.now c.begin_by-after.result = subst (λ (rs : List (ℤ × ℤ)). BeginBy rs c.args.high.now c.begin_by-after.result) (c.as_slice-runs.ensures ∙ c.set.view_is) (simp to_z-of_z at c.begin_by-after.ensures) in
    let last : c.last_to.result ≡ int_min (get_or c.args.set.now (c.begin_by-after.result - 1) (pos 0, pos 0)).1 c.args.high.now = subst (λ (rs : List (ℤ × ℤ)). c.last_to.result ≡ int_min (get_or rs (c.begin_by-after.result - 1) (pos 0, pos 0)).1 c.args.high.now) (c.as_slice-runs.ensures ∙ c.set.view_is) (simp to_z-of_z at c.last_to.ensures) in
    rw found (previous_is c.args.set.now c.args.high.now c.last_to.result c.begin_by-after.result c.requires begins c.if-after-eq0.false last)
