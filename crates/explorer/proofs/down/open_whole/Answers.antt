use Rattle.std.proofs.Common.{ℕ, List, rules, refl, subst, ◌∙◌, FitsSigned, to_z, of_z}
use Rattle.std.specs.Int.{w128}
use Rattle.std.proofs.lemmas.Int.{to_z-of_z}
use Rattle.evictor.specs.declared.report.Report.{Report}
use Rattle.run_log.specs.Journals.{Notes}
use Rattle.explorer.specs.Trees.{rest, opened_lines}
use Rattle.explorer.specs.Recording.{gone_at}
use Rattle.explorer.specs.Going.{aim, state}
use Rattle.explorer.specs.declared.frame.Turn.TheVariants as turn
use Rattle.explorer.proofs.Logging.{looks_keep, still_stops, dry_stops, hit_records, missed_records, missed_stops}
use Rattle.explorer.proofs.Opening.{hit_goes, miss_goes, miss_drawn}
use Rattle.explorer.proofs.down.open_whole.Goals as goal

pub returns-in-Hit-clause-ok : goal.returns-in-Hit-clause-ok
returns-in-Hit-clause-ok c = λ c'. let fits : FitsSigned w128 c'.need-need.result = search rules in rw c'.up_at.ensures (hit_goes c'.args.task.now c'.args.bench.now c'.args.bench.now c'.args.pass.now c'.args.local.now c'.tell_hit.new.local c'.args.reader.now c'.look_up.new.reader c'.args.meter.now c'.args.found.now c'.args.seen.now (to_z w128 (of_z w128 c'.need-need.result)) c'.in-Hit.field-0 c'.in-Hit.place c'.args.whole c'.requires.can c'.requires.seen c'.requires.whole (to_z-of_z w128 c'.need-need.result fits ∙ c'.need-need.ensures) c'.in-Hit.ensures.look c'.in-Hit.ensures.cache c'.in_default.ensures.ok refl)

pub returns-in-Err-start-clause-err : goal.returns-in-Err-start-clause-err
returns-in-Err-start-clause-err c = λ c'. let fits : FitsSigned w128 c'.need-need.result = search rules in miss_drawn c'.args.task.now c'.args.bench.now c'.start.new.bench c'.args.pass.now c'.pay.new.pass c'.args.local.now c'.start.new.local c'.args.reader.now c'.look_up.new.reader c'.args.meter.now c'.pay.new.meter c'.args.found.now c'.args.cut.now c'.args.seen.now (to_z w128 (of_z w128 c'.need-need.result)) c'.args.whole c'.requires.seen c'.requires.whole (to_z-of_z w128 c'.need-need.result fits ∙ c'.need-need.ensures) c'.in-Miss.ensures.cache c'.in-Miss.missed c'.requires.both c'.in-Miss.ensures.look c'.in_default-pay.ensures.ok c'.in-Err-start.ensures.err c'.in-Err-start.stop c'.in-Err-start.ensures.memory

pub returns-clause-ok : goal.returns-clause-ok
returns-clause-ok c = λ c'. let fits : FitsSigned w128 c'.need-need.result = search rules in miss_goes c'.args.task.now c'.args.bench.now c'.start.new.bench c'.args.pass.now c'.pay.new.pass c'.args.local.now c'.start.new.local c'.args.reader.now c'.look_up.new.reader c'.args.meter.now c'.pay.new.meter c'.args.found.now c'.args.cut.now c'.args.seen.now (to_z w128 (of_z w128 c'.need-need.result)) c'.args.whole c'.requires.seen c'.requires.whole (to_z-of_z w128 c'.need-need.result fits ∙ c'.need-need.ensures) c'.in-Miss.ensures.cache c'.in-Miss.missed c'.requires.both c'.in-Miss.ensures.look c'.in_default-pay.ensures.ok c'.in_default-start.ensures.ok

pub returns-in-Err-clause-stops : goal.returns-in-Err-clause-stops
returns-in-Err-clause-stops g c = still_stops (aim c.args.task.now) turn.Down (state c.args.bench.now c.args.pass.now c.args.local.now c.args.reader.now c.args.meter.now c.args.found.now) (state c.args.bench.now c.args.pass.now c.tell_hit.new.local c.look_up.new.reader c.args.meter.now c.args.found.now) (g.J.Journal.noted c.args.journal.now) refl refl (looks_keep c.args.whole.rest _ c.look_up.result c.args.reader.now c.look_up.new.reader c.look_up.ensures.stands)

pub returns-in-Hit-clause-records : goal.returns-in-Hit-clause-records
returns-in-Hit-clause-records g c = let fits : FitsSigned w128 c.need-need.result = search rules in hit_records c.args.task.now c.args.bench.now c.args.pass.now c.args.local.now c.args.reader.now c.look_up.new.reader c.args.meter.now c.args.found.now c.requires.can c.args.seen.now (to_z w128 (of_z w128 c.need-need.result)) c.args.whole c.args.depth.now c.requires.fresh c.requires.seen c.requires.reached c.requires.whole (to_z-of_z w128 c.need-need.result fits ∙ c.need-need.ensures) c.requires.depth c.in-Hit.field-0 c.in-Hit.place c.in-Hit.ensures.look c.in-Hit.ensures.stands c.up_at.result c.args.bench.now c.tell_hit.new.local (g.J.Journal.noted c.args.journal.now) (g.J.Journal.noted c.note_hit.new.journal) c.up_at.ensures refl c.note_hit.ensures.notes

pub returns-in-Err-pay-clause-stops : goal.returns-in-Err-pay-clause-stops
returns-in-Err-pay-clause-stops g c = dry_stops c.args.task.now c.args.bench.now c.args.pass.now c.pay.new.pass c.args.local.now c.args.reader.now c.look_up.new.reader c.args.meter.now c.pay.new.meter c.args.found.now (g.J.Journal.noted c.args.journal.now) c.in-Err-pay.stop c.in-Err-pay.ensures.err (looks_keep c.args.whole.rest _ c.look_up.result c.args.reader.now c.look_up.new.reader c.look_up.ensures.stands)

pub returns-in-Err-start-clause-stops : goal.returns-in-Err-start-clause-stops
returns-in-Err-start-clause-stops g c = let fits : FitsSigned w128 c.need-need.result = search rules in missed_stops c.args.task.now c.args.bench.now c.args.pass.now c.args.local.now c.args.reader.now c.look_up.new.reader c.args.meter.now c.args.found.now c.requires.can c.args.seen.now (to_z w128 (of_z w128 c.need-need.result)) c.args.whole c.args.depth.now c.requires.fresh c.requires.seen c.requires.reached c.requires.whole (to_z-of_z w128 c.need-need.result fits ∙ c.need-need.ensures) c.requires.depth c.pay.new.pass c.pay.new.meter c.args.cut.now c.in-Miss.missed c.in-Miss.ensures.stands c.in_default-pay.ensures.ok c.start.new.bench c.start.new.local (g.J.Journal.noted c.args.journal.now) (g.J.Journal.noted c.note_opened.new.journal) (subst (λ (ps : List ℕ). Notes (g.J.Journal.noted c.args.journal.now) (g.J.Journal.noted c.note_opened.new.journal) (opened_lines c.args.depth.now (record { head = record { seen = c.args.seen.now; asked = rest c.args.whole.offset c.args.whole.rest }; gone = gone_at ps c.in-Miss.missed.reports; cut = c.args.cut.now }))) c.places-places.ensures (subst (λ (rs : List Report). Notes (g.J.Journal.noted c.args.journal.now) (g.J.Journal.noted c.note_opened.new.journal) (opened_lines c.args.depth.now (record { head = record { seen = c.args.seen.now; asked = rest c.args.whole.offset c.args.whole.rest }; gone = gone_at c.places-places.result rs; cut = c.args.cut.now }))) c.reports-reports.ensures c.note_opened.ensures.notes))

pub returns-clause-records : goal.returns-clause-records
returns-clause-records g c = let fits : FitsSigned w128 c.need-need.result = search rules in missed_records c.args.task.now c.args.bench.now c.args.pass.now c.args.local.now c.args.reader.now c.look_up.new.reader c.args.meter.now c.args.found.now c.requires.can c.args.seen.now (to_z w128 (of_z w128 c.need-need.result)) c.args.whole c.args.depth.now c.requires.fresh c.requires.seen c.requires.reached c.requires.whole (to_z-of_z w128 c.need-need.result fits ∙ c.need-need.ensures) c.requires.depth c.pay.new.pass c.pay.new.meter c.args.cut.now c.in-Miss.missed c.in-Miss.ensures.stands c.in_default-pay.ensures.ok c.start.new.bench c.start.new.local (g.J.Journal.noted c.args.journal.now) (g.J.Journal.noted c.note_opened.new.journal) (subst (λ (ps : List ℕ). Notes (g.J.Journal.noted c.args.journal.now) (g.J.Journal.noted c.note_opened.new.journal) (opened_lines c.args.depth.now (record { head = record { seen = c.args.seen.now; asked = rest c.args.whole.offset c.args.whole.rest }; gone = gone_at ps c.in-Miss.missed.reports; cut = c.args.cut.now }))) c.places-places.ensures (subst (λ (rs : List Report). Notes (g.J.Journal.noted c.args.journal.now) (g.J.Journal.noted c.note_opened.new.journal) (opened_lines c.args.depth.now (record { head = record { seen = c.args.seen.now; asked = rest c.args.whole.offset c.args.whole.rest }; gone = gone_at c.places-places.result rs; cut = c.args.cut.now }))) c.reports-reports.ensures c.note_opened.ensures.notes)) c.in_default-start.ensures.ok.enters.frames
