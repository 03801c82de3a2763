use Rattle.explorer.proofs.Logging.{back_records, done_records}
use Rattle.explorer.proofs.up.climb.Goals as goal

pub returns-in-Some-clause-records : goal.returns-in-Some-clause-records
returns-in-Some-clause-records g c = λ j. back_records c.args.task.now c.args.bench.now c.back.new.bench c.args.pass.now c.args.local.now c.args.reader.now c.args.meter.now c.args.found.now c.args.closed j c.in-Some.frame c.in-Some.ensures.some.frames

pub returns-in-None-clause-records : goal.returns-in-None-clause-records
returns-in-None-clause-records g c = λ j. done_records c.args.task.now c.args.bench.now c.back.new.bench c.args.pass.now c.args.local.now c.args.reader.now c.args.meter.now c.args.found.now c.args.closed j c.in-None.ensures.none.0
