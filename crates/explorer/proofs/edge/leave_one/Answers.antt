use Rattle.explorer.proofs.Leaving.{levels_less}
use Rattle.explorer.proofs.edge.leave_one.Goals as goal

pub returns-clause-levels : goal.returns-clause-levels
returns-clause-levels c = λ area lv. levels_less c.args.bench.now (record { store = c.pop_level.new.self; engine = c.args.bench.now.engine; here = c.args.bench.now.here; frames = c.pop.new.self; values = c.args.bench.now.values }) c.in-Some.field-0 area c.in-Some.ensures.some c.pop_level.ensures.saved lv
