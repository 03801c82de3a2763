use Rattle.std.proofs.Common.{◌-◌, arith, sym, ◌∙◌}
use Rattle.std.proofs.lemmas.Bool.{false≢true}
use Rattle.std.proofs.lemmas.Bool.Decides.{Decides-eqb}
use Rattle.search_core.proofs.Nodes.{spare, so_far_none, so_far_more, so_far_differs, so_far_early, so_far_all, so_far_late}
use Rattle.search_core.proofs.tree.is_path_of.Goals as goal

pub loop-left-init : goal.loop-left-init
loop-left-init c = so_far_none _ _ _ c.requires.number

pub returns-then-number-eq0 : goal.returns-then-number-eq0
returns-then-number-eq0 c = (λ h. absurd (false≢true h), λ h. absurd (so_far_early _ _ _ _ _ c.loop-left.invariant c.if-number-eq0.true c.loop-left-test.true h))

pub returns-then-not-is_same : goal.returns-then-not-is_same
returns-then-not-is_same c =
    let n = c.loop-left.number - 1 in
    let m = c.loop-left.left - 1 in (
      λ h. absurd (false≢true h),
      λ h. absurd (so_far_differs _ _ _ _ _ n m spare spare.decision c.requires.tree c.loop-left.invariant (omega arith) (omega arith) (λ e. false≢true (sym c.if-not-is_same.true ∙ c.is_same.ensures.1 e)) h),
    )

pub loop-left-preserved : goal.loop-left-preserved
loop-left-preserved c =
    let n = c.loop-left.number - 1 in
    let m = c.loop-left.left - 1 in
    so_far_more _ _ _ _ _ n m spare spare.decision c.requires.tree c.loop-left.invariant (omega arith) (omega arith) (c.is_same.ensures.0 c.if-not-is_same.false)

pub returns : goal.returns
returns c =
    let root = Decides-eqb c.loop-left.number 0 in
    (λ h. so_far_all _ _ _ _ _ c.loop-left.invariant (root.0 h) (omega arith), λ h. root.1 (so_far_late _ _ _ _ _ c.requires.tree c.loop-left.invariant (omega arith) h))
