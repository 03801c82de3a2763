use Rattle.std.proofs.Common.{ap, arith}
use Rattle.explorer.specs.declared.meter.Meter.{Meter}
use Rattle.explorer.proofs.Exploring.{counts_closed, closes_if, works_all, weighs, counts_by, causes}
use Rattle.explorer.proofs.Closing.{call_logged}
use Rattle.explorer.proofs.subtree.explore.Goals as goal

pub count_closed-requires : goal.count_closed-requires
count_closed-requires c = λ c'. rw (counts_closed (record { alloc = c'.args.alloc; model = c'.args.model; path = c'.args.path; limit = c'.args.limit; cache = c'.args.cache; board = c'.args.board }) c'.args.bench.now c'.try_explore.new.bench c'.args.pass.now c'.try_explore.new.pass c'.args.local.now c'.try_explore.new.local c'.args.reader.now c'.try_explore.new.reader c'.args.meter.now c'.try_explore.new.meter c'.args.found.now c'.try_explore.new.found c'.try_explore.ensures.ran) c'.requires.meter.1

pub returns-clause-settled : goal.returns-clause-settled
returns-clause-settled c = λ c'. closes_if (record { alloc = c'.args.alloc; model = c'.args.model; path = c'.args.path; limit = c'.args.limit; cache = c'.args.cache; board = c'.args.board }) c'.args.bench.now c'.try_explore.new.bench c'.args.pass.now c'.try_explore.new.pass c'.args.local.now c'.try_explore.new.local c'.args.reader.now c'.try_explore.new.reader c'.args.meter.now c'.try_explore.new.meter c'.args.found.now c'.try_explore.new.found c'.answer-explored.result c'.try_explore.result c'.answer-explored.ensures c'.try_explore.ensures.closed

pub returns-clause-works : goal.returns-clause-works
returns-clause-works c = λ c'. works_all (record { alloc = c'.args.alloc; model = c'.args.model; path = c'.args.path; limit = c'.args.limit; cache = c'.args.cache; board = c'.args.board }) c'.args.bench.now c'.try_explore.new.bench c'.args.pass.now c'.try_explore.new.pass c'.args.local.now c'.try_explore.new.local c'.args.reader.now c'.try_explore.new.reader c'.args.meter.now c'.try_explore.new.meter c'.args.found.now c'.try_explore.new.found c'.count_closed.new.meter _ c'.try_explore.ensures.ran c'.count_closed.ensures

pub returns-clause-closed : goal.returns-clause-closed
returns-clause-closed c = λ c'. omega (arith, ap (λ (v : Meter). v.closed) c'.count_closed.ensures, counts_closed (record { alloc = c'.args.alloc; model = c'.args.model; path = c'.args.path; limit = c'.args.limit; cache = c'.args.cache; board = c'.args.board }) c'.args.bench.now c'.try_explore.new.bench c'.args.pass.now c'.try_explore.new.pass c'.args.local.now c'.try_explore.new.local c'.args.reader.now c'.try_explore.new.reader c'.args.meter.now c'.try_explore.new.meter c'.args.found.now c'.try_explore.new.found c'.try_explore.ensures.ran)

pub returns-clause-weight : goal.returns-clause-weight
returns-clause-weight c = λ c'. weighs (record { alloc = c'.args.alloc; model = c'.args.model; path = c'.args.path; limit = c'.args.limit; cache = c'.args.cache; board = c'.args.board }) c'.args.bench.now c'.try_explore.new.bench c'.args.pass.now c'.try_explore.new.pass c'.args.local.now c'.try_explore.new.local c'.args.reader.now c'.try_explore.new.reader c'.args.meter.now c'.try_explore.new.meter c'.args.found.now c'.try_explore.new.found c'.try_explore.ensures.ran

pub returns-clause-expands : goal.returns-clause-expands
returns-clause-expands c = λ c'. counts_by (record { alloc = c'.args.alloc; model = c'.args.model; path = c'.args.path; limit = c'.args.limit; cache = c'.args.cache; board = c'.args.board }) c'.args.bench.now c'.try_explore.new.bench c'.args.pass.now c'.try_explore.new.pass c'.args.local.now c'.try_explore.new.local c'.args.reader.now c'.try_explore.new.reader c'.args.meter.now c'.try_explore.new.meter c'.args.found.now c'.try_explore.new.found c'.answer-explored.result c'.try_explore.result c'.answer-explored.ensures c'.try_explore.ensures.closed c'.try_explore.ensures.stopped

pub returns-clause-cause : goal.returns-clause-cause
returns-clause-cause c = λ c'. causes (record { alloc = c'.args.alloc; model = c'.args.model; path = c'.args.path; limit = c'.args.limit; cache = c'.args.cache; board = c'.args.board }) c'.args.bench.now c'.try_explore.new.bench c'.args.pass.now c'.try_explore.new.pass c'.args.local.now c'.try_explore.new.local c'.args.reader.now c'.try_explore.new.reader c'.args.meter.now c'.try_explore.new.meter c'.args.found.now c'.try_explore.new.found c'.answer-explored.result c'.try_explore.result c'.answer-explored.ensures c'.try_explore.ensures.stopped

pub returns-clause-log : goal.returns-clause-log
returns-clause-log c = λ c'. call_logged (record { alloc = c'.args.alloc; model = c'.args.model; path = c'.args.path; limit = c'.args.limit; cache = c'.args.cache; board = c'.args.board }) c'.args.bench.now c'.try_explore.new.bench c'.args.pass.now c'.try_explore.new.pass c'.args.local.now c'.try_explore.new.local c'.args.reader.now c'.try_explore.new.reader c'.args.meter.now c'.try_explore.new.meter c'.count_closed.new.meter c'.args.found.now c'.try_explore.new.found (c.J.Journal.noted c'.args.journal.now) (c.J.Journal.noted c'.try_explore.new.journal) c'.answer-explored.result c'.try_explore.result _ c'.answer-explored.ensures c'.try_explore.ensures.logged c'.count_closed.ensures
