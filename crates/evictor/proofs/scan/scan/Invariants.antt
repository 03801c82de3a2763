use Rattle.std.proofs.Common.{◌≡◌, length, take}
use Rattle.evictor.specs.Readers.{raised, CountsAbsences}
use Rattle.evictor.specs.Reports.{AreReports, gone_count}
use Rattle.evictor.proofs.scan.scan.Given as goal

abbrev pub invariant-loop-at : goal.invariant-loop-at
invariant-loop-at g l = record {
  count : length l.reports ≡ 8;
  reports : AreReports (g.H.Shelf.contents l.fn.shelf) l.words l.rest l.need (take l.at l.places) (take l.at l.reports);
  contents : g.H.Shelf.contents l.shelf ≡ g.H.Shelf.contents l.fn.shelf;
  refusals : g.H.Shelf.refusals l.shelf ≡ g.H.Shelf.refusals l.fn.shelf;
  absences : CountsAbsences (gone_count (take l.at l.reports)) (g.H.Shelf.absences l.fn.shelf) (g.H.Shelf.absences l.shelf);
  gone : l.gone ≡ raised l.fn.gone (gone_count (take l.at l.reports));
}
