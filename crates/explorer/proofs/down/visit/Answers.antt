use Rattle.std.proofs.Common.{rules, FitsSigned, w64, ℤ, refl, sym, subst}
use Rattle.std.proofs.lemmas.Int.{to_z-of_z}
use Rattle.explorer.specs.Looking.{IsLooked}
use Rattle.explorer.specs.Recording.{Records, Stops}
use Rattle.explorer.specs.Going.{aim, state}
use Rattle.explorer.specs.declared.node.Node.TheVariants as node
use Rattle.explorer.specs.declared.frame.Turn.{Turn}
use Rattle.explorer.specs.declared.frame.Turn.TheVariants as turn
use Rattle.explorer.specs.declared.frame.Stop.{Stop}
use Rattle.explorer.proofs.Opening.{ends_same}
use Rattle.explorer.proofs.Visiting.{down_node, open_seen}
use Rattle.explorer.proofs.Recording.{records_then, records_stop}
use Rattle.explorer.proofs.Logging.{if_ok, if_err, still_stops, found_stops, leaf_records, looked_records, open_reached, is_open}
use Rattle.explorer.proofs.down.visit.Goals as goal

pub returns-in-Err-clause-err : goal.returns-in-Err-clause-err
returns-in-Err-clause-err g c = rw c.in-Err.ensures.memory (ends_same (aim c.args.task.now) turn.Down c.args.bench.now c.args.bench.now c.args.pass.now c.args.local.now c.args.local.now c.args.reader.now c.args.reader.now c.args.meter.now c.args.found.now refl refl refl refl refl)

pub returns-in-Err-clause-stops : goal.returns-in-Err-clause-stops
returns-in-Err-clause-stops g c = still_stops (aim c.args.task.now) turn.Down (state c.args.bench.now c.args.pass.now c.args.local.now c.args.reader.now c.args.meter.now c.args.found.now) (state c.args.bench.now c.args.pass.now c.args.local.now c.args.reader.now c.args.meter.now c.args.found.now) (g.J.Journal.noted c.args.journal.now) refl refl (λ standing st. st)

pub look-requires-clause-node : goal.look-requires-clause-node
look-requires-clause-node g c = down_node c.args.task.now c.args.bench.now c.args.pass.now c.args.local.now c.args.reader.now c.args.meter.now c.args.found.now c.args.seen.now c.requires.can c.requires.seen

pub returns-in-Err-tell_leaf-clause-stops : goal.returns-in-Err-tell_leaf-clause-stops
returns-in-Err-tell_leaf-clause-stops g c = found_stops c.args.task.now c.args.bench.now c.look.new.bench c.args.pass.now c.look.new.pass c.args.local.now c.tell_leaf.new.local c.args.reader.now c.args.meter.now c.look.new.meter c.args.found.now c.look.new.found (g.J.Journal.noted c.args.journal.now) (g.J.Journal.noted c.look.new.journal) c.requires.can c.look.ensures.finds.credits c.look.ensures.finds.same c.look.ensures.notes

pub open-requires-clause-seen : goal.open-requires-clause-seen
open-requires-clause-seen g c = open_seen c.args.pass.now c.look.new.pass c.args.meter.now c.look.new.meter c.args.found.now c.look.new.found c.args.seen.now c.in-Ok-Open.cut (λ u. c.in-Ok-Open.ensures.none (rw c.in-Ok-Open.field-0-is u)) c.requires.seen

pub open-requires-clause-reached : goal.open-requires-clause-reached
open-requires-clause-reached g c = open_reached c.args.task.now.model.now c.look.new.bench c.args.seen.now c.in-Ok-Open.cut (rw (← c.in-Ok-Open.field-0-is) c.in-Ok-Open.ensures.reached)

pub returns-in_default-clause-records : goal.returns-in_default-clause-records
returns-in_default-clause-records g c =
    let fits : FitsSigned w64 c.in-Ok-Closed.bound = search rules in
    leaf_records c.args.task.now c.args.bench.now c.look.new.bench c.args.pass.now c.look.new.pass c.args.local.now c.tell_leaf.new.local c.args.reader.now c.args.meter.now c.look.new.meter c.args.found.now c.look.new.found (g.J.Journal.noted c.args.journal.now) (g.J.Journal.noted c.note_leaf.new.journal) c.requires.can c.look.ensures.finds.credits c.look.ensures.finds.same c.up_at.result c.look.new.bench (g.J.Journal.noted c.look.new.journal) c.in-Ok.depth _ c.up_at.ensures c.requires.fresh c.look.ensures.notes (subst (λ (v : ℤ). IsLooked c.args.task.now.model.now c.look.new.bench c.look.new.pass.seen (node.Closed v)) (sym (to_z-of_z w64 c.in-Ok-Closed.bound fits)) (rw (← c.in-Ok-Closed.field-0-is) c.in-Ok-Closed.ensures.node)) c.look.ensures.stays.here c.look.ensures.stays.frames c.in-Ok.ensures.depth c.note_leaf.ensures.notes

pub returns-in-Ok-Open-clause-records : goal.returns-in-Ok-Open-clause-records
returns-in-Ok-Open-clause-records g c =
    let s = state c.args.bench.now c.args.pass.now c.args.local.now c.args.reader.now c.args.meter.now c.args.found.now in
    let w = state c.look.new.bench c.look.new.pass c.look.new.local c.args.reader.now c.look.new.meter c.look.new.found in
    let z = state c.open.new.bench c.open.new.pass c.open.new.local c.open.new.reader c.open.new.meter c.look.new.found in
    if_ok (λ (v : Turn). Records (aim c.args.task.now) turn.Down w (g.J.Journal.noted c.look.new.journal) v z (g.J.Journal.noted c.open.new.journal)) (λ (v : Turn). Records (aim c.args.task.now) turn.Down s (g.J.Journal.noted c.args.journal.now) v z (g.J.Journal.noted c.open.new.journal)) c.open.result
    (λ v go. records_then (aim c.args.task.now) turn.Down turn.Down v s w z (g.J.Journal.noted c.args.journal.now) (g.J.Journal.noted c.look.new.journal) (g.J.Journal.noted c.open.new.journal)
    (looked_records c.args.task.now c.args.bench.now c.look.new.bench c.args.pass.now c.look.new.pass c.args.local.now c.look.new.local c.args.reader.now c.args.meter.now c.look.new.meter c.args.found.now c.look.new.found (g.J.Journal.noted c.args.journal.now) (g.J.Journal.noted c.look.new.journal) c.look.ensures.stays (c.in-Ok-Open.ensures.none (rw c.in-Ok-Open.field-0-is (is_open c.in-Ok-Open.cut))) (c.in-Ok-Open.ensures.still (rw c.in-Ok-Open.field-0-is (is_open c.in-Ok-Open.cut)))) go) c.open.ensures.records

pub returns-in-Ok-Open-clause-stops : goal.returns-in-Ok-Open-clause-stops
returns-in-Ok-Open-clause-stops g c =
    let s = state c.args.bench.now c.args.pass.now c.args.local.now c.args.reader.now c.args.meter.now c.args.found.now in
    let w = state c.look.new.bench c.look.new.pass c.look.new.local c.args.reader.now c.look.new.meter c.look.new.found in
    let z = state c.open.new.bench c.open.new.pass c.open.new.local c.open.new.reader c.open.new.meter c.look.new.found in
    if_err (λ (why : Stop). Stops (aim c.args.task.now) turn.Down w (g.J.Journal.noted c.look.new.journal) z (g.J.Journal.noted c.open.new.journal)) (λ (why : Stop). Stops (aim c.args.task.now) turn.Down s (g.J.Journal.noted c.args.journal.now) z (g.J.Journal.noted c.open.new.journal)) c.open.result
    (λ why broke. records_stop (aim c.args.task.now) turn.Down turn.Down s w z (g.J.Journal.noted c.args.journal.now) (g.J.Journal.noted c.look.new.journal) (g.J.Journal.noted c.open.new.journal)
    (looked_records c.args.task.now c.args.bench.now c.look.new.bench c.args.pass.now c.look.new.pass c.args.local.now c.look.new.local c.args.reader.now c.args.meter.now c.look.new.meter c.args.found.now c.look.new.found (g.J.Journal.noted c.args.journal.now) (g.J.Journal.noted c.look.new.journal) c.look.ensures.stays (c.in-Ok-Open.ensures.none (rw c.in-Ok-Open.field-0-is (is_open c.in-Ok-Open.cut))) (c.in-Ok-Open.ensures.still (rw c.in-Ok-Open.field-0-is (is_open c.in-Ok-Open.cut)))) broke) c.open.ensures.stops

pub returns-in-Err-look-clause-stops : goal.returns-in-Err-look-clause-stops
returns-in-Err-look-clause-stops g c = found_stops c.args.task.now c.args.bench.now c.look.new.bench c.args.pass.now c.look.new.pass c.args.local.now c.look.new.local c.args.reader.now c.args.meter.now c.look.new.meter c.args.found.now c.look.new.found (g.J.Journal.noted c.args.journal.now) (g.J.Journal.noted c.look.new.journal) c.requires.can c.look.ensures.finds.credits c.look.ensures.finds.same c.look.ensures.notes
