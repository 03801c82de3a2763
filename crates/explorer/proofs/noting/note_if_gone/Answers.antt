use Rattle.std.proofs.Common.{refl}
use Rattle.run_log.proofs.Appending.{notes_none}
use Rattle.explorer.proofs.Told.{not_gone}
use Rattle.explorer.proofs.noting.note_if_gone.Goals as goal

pub returns-in_default : goal.returns-in_default
returns-in_default g c = record { notes = rw (not_gone c.args.place.now c.args.report.now c.in_default.not-Gone) (notes_none (g.J.Journal.noted c.args.journal.now)); places = refl }
