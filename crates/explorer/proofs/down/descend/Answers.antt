use Rattle.explorer.specs.Recording.{Records, Stops}
use Rattle.explorer.specs.Going.{aim, state}
use Rattle.explorer.specs.declared.frame.Turn.{Turn}
use Rattle.explorer.specs.declared.frame.Turn.TheVariants as turn
use Rattle.explorer.specs.declared.frame.Stop.{Stop}
use Rattle.explorer.proofs.Recording.{records_then, records_stop}
use Rattle.explorer.proofs.Logging.{if_ok, if_err, heard_records, heard_breaks}
use Rattle.explorer.proofs.down.descend.Goals as goal

pub returns-in-Ok-clause-records : goal.returns-in-Ok-clause-records
returns-in-Ok-clause-records g c =
    let s = state c.args.bench.now c.args.pass.now c.args.local.now c.args.reader.now c.args.meter.now c.args.found.now in
    let w = state c.args.bench.now c.listen.new.pass c.listen.new.local c.args.reader.now c.args.meter.now c.args.found.now in
    let z = state c.visit.new.bench c.visit.new.pass c.visit.new.local c.visit.new.reader c.visit.new.meter c.visit.new.found in
    if_ok (λ (v : Turn). Records (aim c.args.task.now) turn.Down w (g.J.Journal.noted c.args.journal.now) v z (g.J.Journal.noted c.visit.new.journal)) (λ (v : Turn). Records (aim c.args.task.now) turn.Down s (g.J.Journal.noted c.args.journal.now) v z (g.J.Journal.noted c.visit.new.journal)) c.visit.result
    (λ v go. records_then (aim c.args.task.now) turn.Down turn.Down v s w z (g.J.Journal.noted c.args.journal.now) (g.J.Journal.noted c.args.journal.now) (g.J.Journal.noted c.visit.new.journal) (heard_records c.args.task.now c.args.bench.now c.args.pass.now c.listen.new.pass c.args.local.now c.listen.new.local c.args.reader.now c.args.meter.now c.args.found.now (g.J.Journal.noted c.args.journal.now) c.listen.ensures.pass) go) c.visit.ensures.records

pub returns-in-Ok-clause-stops : goal.returns-in-Ok-clause-stops
returns-in-Ok-clause-stops g c =
    let s = state c.args.bench.now c.args.pass.now c.args.local.now c.args.reader.now c.args.meter.now c.args.found.now in
    let w = state c.args.bench.now c.listen.new.pass c.listen.new.local c.args.reader.now c.args.meter.now c.args.found.now in
    let z = state c.visit.new.bench c.visit.new.pass c.visit.new.local c.visit.new.reader c.visit.new.meter c.visit.new.found in
    if_err (λ (why : Stop). Stops (aim c.args.task.now) turn.Down w (g.J.Journal.noted c.args.journal.now) z (g.J.Journal.noted c.visit.new.journal)) (λ (why : Stop). Stops (aim c.args.task.now) turn.Down s (g.J.Journal.noted c.args.journal.now) z (g.J.Journal.noted c.visit.new.journal)) c.visit.result
    (λ why broke. records_stop (aim c.args.task.now) turn.Down turn.Down s w z (g.J.Journal.noted c.args.journal.now) (g.J.Journal.noted c.args.journal.now) (g.J.Journal.noted c.visit.new.journal) (heard_records c.args.task.now c.args.bench.now c.args.pass.now c.listen.new.pass c.args.local.now c.listen.new.local c.args.reader.now c.args.meter.now c.args.found.now (g.J.Journal.noted c.args.journal.now) c.listen.ensures.pass) broke) c.visit.ensures.stops

pub returns-in-Err-clause-stops : goal.returns-in-Err-clause-stops
returns-in-Err-clause-stops g c = heard_breaks c.args.task.now c.args.bench.now c.args.pass.now c.listen.new.pass c.args.local.now c.listen.new.local c.args.reader.now c.args.meter.now c.args.found.now (g.J.Journal.noted c.args.journal.now) c.listen.ensures.pass
