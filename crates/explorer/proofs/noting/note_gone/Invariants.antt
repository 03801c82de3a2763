use Rattle.std.proofs.Common.{◌≡◌, take}
use Rattle.run_log.specs.Journals.{Notes}
use Rattle.explorer.specs.Trees.{gone_lines}
use Rattle.explorer.specs.Recording.{gone_at}
use Rattle.explorer.proofs.noting.note_gone.Given as goal

abbrev pub invariant-all : goal.invariant-all
invariant-all g l = record {
  notes : Notes (g.J.Journal.noted l.fn.journal) (g.J.Journal.noted l.journal) (gone_lines (gone_at (take l.at l.places) (take l.at l.reports)));
  places : g.J.Journal.places l.journal ≡ g.J.Journal.places l.fn.journal;
}
