use Rattle.std.proofs.Common.{refl}
use Rattle.run_log.proofs.Appending.{notes_none}
use Rattle.explorer.proofs.up.store_joined.Goals as goal

pub returns-in_default-clause-stores : goal.returns-in_default-clause-stores
returns-in_default-clause-stores g c = rw c.in_default.is (notes_none (g.J.Journal.noted c.args.journal.now), refl)
