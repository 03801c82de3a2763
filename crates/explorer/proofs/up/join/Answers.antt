use Rattle.std.proofs.Common.{refl}
use Rattle.explorer.specs.Going.{aim, state}
use Rattle.explorer.specs.declared.frame.Turn.TheVariants as turn
use Rattle.explorer.proofs.Recording.{quiet_stops}
use Rattle.explorer.proofs.Logging.{join_records}
use Rattle.explorer.proofs.up.join.Goals as goal

pub returns-in-Err-clause-stops : goal.returns-in-Err-clause-stops
returns-in-Err-clause-stops g c = quiet_stops (aim c.args.task.now) (turn.Back c.args.frame c.args.closed.now) (state c.args.bench.now c.args.pass.now c.args.local.now c.args.reader.now c.args.meter.now c.args.found.now) (state c.args.bench.now c.args.pass.now c.args.local.now c.args.reader.now c.args.meter.now c.args.found.now) (g.J.Journal.noted c.args.journal.now) refl refl (record { board = refl; first = refl; out = refl; splits = refl }) refl (λ standing h. h)

pub returns-in-Err-tell_join-clause-stops : goal.returns-in-Err-tell_join-clause-stops
returns-in-Err-tell_join-clause-stops g c = quiet_stops (aim c.args.task.now) (turn.Back c.args.frame c.args.closed.now) (state c.args.bench.now c.args.pass.now c.args.local.now c.args.reader.now c.args.meter.now c.args.found.now) (state c.args.bench.now c.args.pass.now c.tell_join.new.local c.args.reader.now c.args.meter.now c.args.found.now) (g.J.Journal.noted c.args.journal.now) refl refl (record { board = refl; first = refl; out = refl; splits = refl }) refl (λ standing h. h)

pub returns-clause-records : goal.returns-clause-records
returns-clause-records g c = join_records c.args.task.now c.args.bench.now c.args.pass.now c.args.local.now c.tell_join.new.local c.args.reader.now c.store_joined.new.reader c.args.meter.now c.args.found.now c.args.closed.now c.args.frame c.requires.can c.requires.second c.up_at.result (g.J.Journal.noted c.args.journal.now) (g.J.Journal.noted c.note_join.new.journal) (g.J.Journal.noted c.store_joined.new.journal) c.in-Ok.depth c.up_at.ensures c.in-Ok.ensures.depth c.note_join.ensures.notes c.store_joined.ensures.stores
