use Rattle.explorer.specs.Going.{aim}
use Rattle.explorer.specs.declared.frame.Stop.TheVariants as stop
use Rattle.explorer.proofs.Exploring.{moved_stops, none_stops, can_leave, stops_if, left_bench}
use Rattle.std.proofs.Common.{refl}
use Rattle.explorer.specs.Going.{state}
use Rattle.explorer.proofs.Closing.{quiet_logged, moved_logged}
use Rattle.explorer.proofs.subtree.try_explore.Goals as goal

pub returns-in-Err-clause-stopped : goal.returns-in-Err-clause-stopped
returns-in-Err-clause-stopped c = λ c'. moved_stops (aim c'.args.task.now) c'.args.bench.now c'.args.bench.now c'.args.bench.now c'.enter.new.bench c'.args.pass.now c'.args.pass.now c'.args.local.now c'.args.local.now c'.args.reader.now c'.args.reader.now c'.args.meter.now c'.args.meter.now c'.args.found.now c'.args.found.now stop.NoMemory (none_stops c'.args.task.now c'.args.bench.now c'.args.pass.now c'.args.local.now c'.args.reader.now c'.args.meter.now c'.args.found.now)

pub leave-requires-clause-levels : goal.leave-requires-clause-levels
leave-requires-clause-levels c = λ c'. can_leave c'.args.task.now.model.now c'.args.task.now.path.now c'.enter.new.bench c'.search_below-ended.new.bench c'.in_default.ensures.ok c'.search_below-ended.ensures.levels

pub returns-clause-stopped : goal.returns-clause-stopped
returns-clause-stopped c = λ c'. stops_if (aim c'.args.task.now) c'.args.bench.now c'.enter.new.bench c'.search_below-ended.new.bench c'.leave.new.bench c'.args.pass.now c'.search_below-ended.new.pass c'.args.local.now c'.search_below-ended.new.local c'.args.reader.now c'.search_below-ended.new.reader c'.args.meter.now c'.search_below-ended.new.meter c'.args.found.now c'.search_below-ended.new.found c'.search_below-ended.result c'.search_below-ended.ensures.stopped

pub returns-clause-bench : goal.returns-clause-bench
returns-clause-bench c = λ c'. left_bench c'.args.task.now c'.enter.new.bench c'.search_below-ended.new.bench c'.leave.new.bench c'.args.pass.now c'.search_below-ended.new.pass c'.args.local.now c'.search_below-ended.new.local c'.args.reader.now c'.search_below-ended.new.reader c'.args.meter.now c'.search_below-ended.new.meter c'.args.found.now c'.search_below-ended.new.found c'.requires.bench.full c'.in_default.ensures.ok c'.search_below-ended.ensures.levels c'.search_below-ended.ensures.ran c'.leave.ensures.domains c'.leave.ensures.no_level c'.leave.ensures.plan c'.leave.ensures.no_path c'.leave.ensures.no_frame c'.leave.ensures.able

pub returns-in-Err-clause-logged : goal.returns-in-Err-clause-logged
returns-in-Err-clause-logged c = λ c'. quiet_logged (aim c'.args.task.now) (state c'.args.bench.now c'.args.pass.now c'.args.local.now c'.args.reader.now c'.args.meter.now c'.args.found.now) (state c'.enter.new.bench c'.args.pass.now c'.args.local.now c'.args.reader.now c'.args.meter.now c'.args.found.now) (c.J.Journal.noted c'.args.journal.now) stop.NoMemory refl refl refl (λ standing st. st)

pub returns-clause-logged : goal.returns-clause-logged
returns-clause-logged c = λ c'. moved_logged (aim c'.args.task.now) c'.search_below-ended.result c'.enter.new.bench c'.search_below-ended.new.bench c'.args.bench.now c'.leave.new.bench c'.args.pass.now c'.search_below-ended.new.pass c'.args.local.now c'.search_below-ended.new.local c'.args.reader.now c'.search_below-ended.new.reader c'.args.meter.now c'.search_below-ended.new.meter c'.args.found.now c'.search_below-ended.new.found (c.J.Journal.noted c'.args.journal.now) (c.J.Journal.noted c'.search_below-ended.new.journal) c'.search_below-ended.ensures.logged
