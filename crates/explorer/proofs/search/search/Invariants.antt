use Rattle.std.proofs.Common.{◌≡◌}
use Rattle.explorer.specs.Going.{aim, state, Goes, CanGo}
use Rattle.explorer.specs.Benches.{IsAble}
use Rattle.explorer.specs.Turns.{turns_left}
use Rattle.explorer.specs.Recording.{Records}
use Rattle.explorer.specs.declared.frame.Turn.TheVariants as turn
use Rattle.explorer.proofs.search.search.Given as goal

abbrev pub invariant-steps : goal.invariant-steps
invariant-steps g l = record {
  able : IsAble l.bench;
  can : CanGo (aim l.task) l.turn (state l.bench l.pass l.local l.reader l.meter l.found);
  goes : Goes (aim l.task) 0 turn.Down (state l.fn.bench l.fn.pass l.fn.local l.fn.reader l.fn.meter l.fn.found) l.turn (state l.bench l.pass l.local l.reader l.meter l.found);
  records : Records (aim l.task) turn.Down (state l.fn.bench l.fn.pass l.fn.local l.fn.reader l.fn.meter l.fn.found) (g.J.Journal.noted l.fn.journal) l.turn (state l.bench l.pass l.local l.reader l.meter l.found) (g.J.Journal.noted l.journal);
  places : g.J.Journal.places l.journal ≡ g.J.Journal.places l.fn.journal;
}

abbrev pub decreases-steps : goal.decreases-steps
decreases-steps g l = turns_left l.task.model.now l.task.path.now l.turn l.bench
