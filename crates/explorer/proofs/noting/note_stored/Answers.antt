use Rattle.std.proofs.Common.{refl}
use Rattle.run_log.proofs.Appending.{notes_none}
use Rattle.explorer.proofs.Told.{not_stored}
use Rattle.explorer.proofs.noting.note_stored.Goals as goal

pub returns-in_default : goal.returns-in_default
returns-in_default g c = record { notes = rw (not_stored c.args.put.now c.args.bound.now c.in_default.not-Stored) (notes_none (g.J.Journal.noted c.args.journal.now)); places = refl }
