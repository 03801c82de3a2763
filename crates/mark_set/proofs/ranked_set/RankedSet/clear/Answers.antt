use Rattle.mark_set.proofs.Ranking.{clears_long, clears_both}
use Rattle.mark_set.proofs.ranked_set.RankedSet.clear.Goals as goal

pub returns-clause-length : goal.returns-clause-length
returns-clause-length c = clears_long c.self.inside.cheap c.self.inside.late c.self.inside.dear.items c.args.self.now c.self.invariant c.self.view_is c.clear.new.self c.clear-2.new.self c.clear.ensures.length c.clear-2.ensures.length

pub returns-clause-clear : goal.returns-clause-clear
returns-clause-clear c = clears_both c.self.inside.cheap c.self.inside.late c.self.inside.dear.items c.args.self.now c.self.invariant c.self.view_is c.clear.new.self c.clear-2.new.self c.clear.ensures.length c.clear-2.ensures.length c.clear.ensures.clear c.clear-2.ensures.clear
