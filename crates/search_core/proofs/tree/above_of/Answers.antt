use Rattle.std.proofs.Common.{◌-◌, arith}
use Rattle.search_core.proofs.Nodes.{spare, root_no_side, above_is, up_below}
use Rattle.search_core.proofs.tree.above_of.Goals as goal

pub returns-then-number-eq0-clause-path : goal.returns-then-number-eq0-clause-path
returns-then-number-eq0-clause-path c = λ p d h. absurd (root_no_side _ _ p d c.if-number-eq0.true h)

pub returns-clause-below : goal.returns-clause-below
returns-clause-below c =
    let below = up_below _ (c.args.number - 1) _ spare c.requires.tree c.requires.number (omega arith) in
    omega (arith, below, c.requires.number)

pub returns-clause-path : goal.returns-clause-path
returns-clause-path c = λ p d h. above_is _ (c.args.number - 1) _ spare p d c.requires.tree c.requires.number (omega arith) h
