use Rattle.std.proofs.Common.{refl, ◌∙◌}
use Rattle.explorer.specs.Going.{aim, state}
use Rattle.explorer.specs.declared.frame.Turn.TheVariants as turn
use Rattle.explorer.proofs.Going.{goes_none, goes_more, can_go, goes_ends}
use Rattle.explorer.proofs.Recording.{records_none, records_then, records_stop}
use Rattle.explorer.proofs.search.search.Goals as goal

pub steps-init : goal.steps-init
steps-init g c =
    let s = state c.args.bench.now c.args.pass.now c.args.local.now c.args.reader.now c.args.meter.now c.args.found.now in
    record {
      able = c.requires.able;
      can = c.requires.can;
      goes = goes_none (aim c.args.task.now) turn.Down s;
      records = records_none (aim c.args.task.now) turn.Down s (g.J.Journal.noted c.args.journal.now);
      places = refl;
    }

pub steps-preserved : goal.steps-preserved
steps-preserved g c =
    let s = state c.args.bench.now c.args.pass.now c.args.local.now c.args.reader.now c.args.meter.now c.args.found.now in
    let w = state c.steps.bench c.steps.pass c.steps.local c.steps.reader c.steps.meter c.steps.found in
    let z = state c.advance.new.bench c.advance.new.pass c.advance.new.local c.advance.new.reader c.advance.new.meter c.advance.new.found in
    record {
      able = c.advance.ensures.able;
      can = can_go (aim c.args.task.now) 1 c.steps.turn c.in-Ok.next w z c.steps.invariant.can c.in-Ok.ensures.ok;
      goes = goes_more (aim c.args.task.now) 1 turn.Down c.steps.turn c.in-Ok.next s w z c.steps.invariant.goes c.in-Ok.ensures.ok;
      records = records_then (aim c.args.task.now) turn.Down c.steps.turn c.in-Ok.next s w z (g.J.Journal.noted c.args.journal.now) (g.J.Journal.noted c.steps.journal) (g.J.Journal.noted c.advance.new.journal) c.steps.invariant.records c.in-Ok.ensures.records;
      places = c.advance.ensures.places ∙ c.steps.invariant.places;
    }

pub returns-in-Err : goal.returns-in-Err
returns-in-Err g c =
    let s = state c.args.bench.now c.args.pass.now c.args.local.now c.args.reader.now c.args.meter.now c.args.found.now in
    let w = state c.steps.bench c.steps.pass c.steps.local c.steps.reader c.steps.meter c.steps.found in
    let z = state c.advance.new.bench c.advance.new.pass c.advance.new.local c.advance.new.reader c.advance.new.meter c.advance.new.found in
    record {
      ok = tt;
      err = goes_ends (aim c.args.task.now) 0 turn.Down c.steps.turn s w z c.in-Err.stop c.steps.invariant.goes c.in-Err.ensures.err;
      records = tt;
      stops = records_stop (aim c.args.task.now) turn.Down c.steps.turn s w z (g.J.Journal.noted c.args.journal.now) (g.J.Journal.noted c.steps.journal) (g.J.Journal.noted c.advance.new.journal) c.steps.invariant.records c.in-Err.ensures.stops;
      places = c.advance.ensures.places ∙ c.steps.invariant.places;
      able = c.advance.ensures.able;
    }
