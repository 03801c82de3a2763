use Rattle.explorer.proofs.Leaving.{left_box}
use Rattle.explorer.proofs.edge.leave.Goals as goal

pub returns-clause-domains : goal.returns-clause-domains
returns-clause-domains c = λ area lv. left_box c.levels.bench area c.pop_level.new.self.box (c.levels.invariant.last c.levels-test.false) (c.levels.invariant.levels area lv) c.pop_level.ensures.domains
