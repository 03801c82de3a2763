use Rattle.std.proofs.Common.{◌-◌, arith, sym, ◌∙◌}
use Rattle.std.proofs.lemmas.Bool.{false≢true}
use Rattle.search_core.proofs.Nodes.{spare, root_no_side, above_is, last_is, side_is, up_below}
use Rattle.search_core.proofs.tree.is_side_of.Goals as goal

pub returns-then-number-eq0 : goal.returns-then-number-eq0
returns-then-number-eq0 c = (λ h. absurd (false≢true h), λ h. absurd (root_no_side _ _ _ _ c.if-number-eq0.true h))

pub is_path_of-requires-clause-number : goal.is_path_of-requires-clause-number
is_path_of-requires-clause-number c =
    let below = up_below _ (c.args.number - 1) _ spare c.requires.tree c.requires.number (omega arith) in
    omega (arith, below, c.requires.number)

pub returns-then-is_same : goal.returns-then-is_same
returns-then-is_same c =
    let k = c.args.number - 1 in (
      λ h. side_is _ k _ spare _ _ c.requires.tree c.requires.number (omega arith) (c.is_path_of.ensures.0 h) (c.is_same.ensures.0 c.if-is_same.true),
      λ h. c.is_path_of.ensures.1 (above_is _ k _ spare _ _ c.requires.tree c.requires.number (omega arith) h),
    )

pub returns-else-is_same : goal.returns-else-is_same
returns-else-is_same c =
    let k = c.args.number - 1 in (
      λ h. absurd (false≢true (sym c.if-is_same.false ∙ h)),
      λ h. c.is_same.ensures.1 (last_is _ k _ spare _ _ c.requires.tree c.requires.number (omega arith) h),
    )
