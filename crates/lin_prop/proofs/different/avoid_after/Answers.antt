use Rattle.std.proofs.Common.{rules, FitsSigned}
use Rattle.std.specs.Int.{w128}
use Rattle.std.proofs.lemmas.Int.{to_z-of_z}
use Rattle.lin_prop.proofs.Differing.{one_between, leaves}
use Rattle.lin_prop.proofs.different.avoid_after.Goals as goal

pub avoid_at-requires-clause-open : goal.avoid_at-requires-clause-open
avoid_at-requires-clause-open c = one_between c.args.store.now.box c.args.terms.now c.args.front.now c.stretch_from-back.result c.requires.front c.stretch_from-back.ensures.stretch c.requires.open c.if-back-terms.false

pub avoid_at-requires-clause-left : goal.avoid_at-requires-clause-left
avoid_at-requires-clause-left c =
    let f : FitsSigned w128 c.left_of-left.result = search rules in
    simp to_z-of_z (leaves c.args.store.now.box c.args.terms.now c.args.r.now c.left_of-left.result c.args.front.now c.stretch_from-back.result c.requires.front c.stretch_from-back.ensures.stretch c.requires.open c.if-back-terms.false c.left_of-left.ensures)
