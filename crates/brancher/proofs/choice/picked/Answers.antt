use Rattle.std.proofs.Common.{rules, subst}
use Rattle.brancher.specs.Branching.{AreFixed}
use Rattle.brancher.proofs.Ranking.{best_is, best_within, all_fixed}
use Rattle.brancher.proofs.Picking.{picked_at, none_here}
use Rattle.brancher.proofs.choice.picked.Goals as goal

pub rule_for-requires : goal.rule_for-requires
rule_for-requires g c = best_within _ c.pick-item.result.by _ c.in-Some.best c.in-Some.ensures

pub cut_by-requires-clause-var : goal.cut_by-requires-clause-var
cut_by-requires-clause-var g c = best_within _ c.pick-item.result.by _ c.in-Some.best c.in-Some.ensures

pub cut_by-requires-clause-several : goal.cut_by-requires-clause-several
cut_by-requires-clause-several g c = (best_is _ c.pick-item.result.by _ c.in-Some.best c.in-Some.ensures).has_values

pub returns-in-Some-clause-some : goal.returns-in-Some-clause-some
returns-in-Some-clause-some g c = picked_at _ c.args.picks.now c.loop-pick.pick-index c.in-Some.best.var c.pick-item.result c.cut_by.result (search rules) (search rules) c.loop-pick.invariant (best_is _ c.pick-item.result.by _ c.in-Some.best (search rules)) (search rules)

pub loop-pick-preserved : goal.loop-pick-preserved
loop-pick-preserved g c =
    let fixed : AreFixed (g.V.BoxView.shape c.args.view.now) c.pick-item.result.vars = subst (AreFixed (g.V.BoxView.shape c.args.view.now)) c.as_slice.ensures (all_fixed _ c.pick-item.result.by _ c.in_default.ensures) in
    none_here _ c.args.picks.now c.loop-pick.pick-index c.pick-item.result (search rules) (search rules) c.loop-pick.invariant fixed
