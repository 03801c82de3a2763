use Rattle.std.proofs.Common.{ℕ, [], subst}
use Rattle.run_log.specs.Journals.{Notes}
use Rattle.explorer.specs.Trees.{wide, opened_lines}
use Rattle.explorer.proofs.Logging.{wide_records, wide_stops, dry_stops}
use Rattle.explorer.proofs.down.open_wide.Goals as goal

pub returns-in-Err-clause-stops : goal.returns-in-Err-clause-stops
returns-in-Err-clause-stops g c = dry_stops c.args.task.now c.args.bench.now c.args.pass.now c.pay.new.pass c.args.local.now c.args.reader.now c.args.reader.now c.args.meter.now c.pay.new.meter c.args.found.now (g.J.Journal.noted c.args.journal.now) c.in-Err.stop c.in-Err.ensures.err (λ standing st. st)

pub returns-in-Err-start-clause-stops : goal.returns-in-Err-start-clause-stops
returns-in-Err-start-clause-stops g c = wide_stops c.args.task.now c.args.bench.now c.start.new.bench c.args.pass.now c.pay.new.pass c.args.local.now c.start.new.local c.args.reader.now c.args.meter.now c.pay.new.meter c.args.found.now (g.J.Journal.noted c.args.journal.now) (g.J.Journal.noted c.note_wide_opened.new.journal) c.requires.can c.args.seen.now c.args.wide c.args.cut.now c.args.depth.now c.requires.fresh c.requires.seen c.in_default.ensures.ok c.requires.reached c.requires.wide c.requires.depth
    (subst (λ (n : ℕ). Notes (g.J.Journal.noted c.args.journal.now) (g.J.Journal.noted c.note_wide_opened.new.journal) (opened_lines c.args.depth.now (record { head = record { seen = c.args.seen.now; asked = wide n }; gone = []; cut = c.args.cut.now }))) c.count-words.ensures c.note_wide_opened.ensures.notes)

pub returns-clause-records : goal.returns-clause-records
returns-clause-records g c = wide_records c.args.task.now c.args.bench.now c.start.new.bench c.args.pass.now c.pay.new.pass c.args.local.now c.start.new.local c.args.reader.now c.args.meter.now c.pay.new.meter c.args.found.now (g.J.Journal.noted c.args.journal.now) (g.J.Journal.noted c.note_wide_opened.new.journal) c.requires.can c.args.seen.now c.args.wide c.args.cut.now c.args.depth.now c.requires.fresh c.requires.seen c.in_default.ensures.ok c.requires.reached c.requires.wide c.requires.depth
    (subst (λ (n : ℕ). Notes (g.J.Journal.noted c.args.journal.now) (g.J.Journal.noted c.note_wide_opened.new.journal) (opened_lines c.args.depth.now (record { head = record { seen = c.args.seen.now; asked = wide n }; gone = []; cut = c.args.cut.now }))) c.count-words.ensures c.note_wide_opened.ensures.notes)
    c.in_default-start.ensures.ok.enters.frames
