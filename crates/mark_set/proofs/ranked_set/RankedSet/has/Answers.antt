use Rattle.std.proofs.Common.{sym, ◌∙◌}
use Rattle.mark_set.proofs.Ranking.{has_late}
use Rattle.mark_set.proofs.ranked_set.RankedSet.has.Goals as goal

pub returns-else-has : goal.returns-else-has
returns-else-has c = has_late c.self.inside.cheap c.self.inside.late c.self.inside.dear.items c.args.self.now c.self.invariant c.self.view_is c.args.number c.has-else-has.result (sym c.has.ensures ∙ c.if-has.false) c.has-else-has.ensures
