use Rattle.std.proofs.Common.{refl}
use Rattle.explorer.specs.Going.{aim, state}
use Rattle.explorer.specs.declared.frame.Turn.TheVariants as turn
use Rattle.explorer.proofs.Logging.{still_stops}
use Rattle.explorer.proofs.down.open.Goals as goal

pub returns-in-Err-clause-stops : goal.returns-in-Err-clause-stops
returns-in-Err-clause-stops g c = still_stops (aim c.args.task.now) turn.Down (state c.args.bench.now c.args.pass.now c.args.local.now c.args.reader.now c.args.meter.now c.args.found.now) (state c.args.bench.now c.args.pass.now c.args.local.now c.args.reader.now c.args.meter.now c.args.found.now) (g.J.Journal.noted c.args.journal.now) refl refl (λ standing st. st)
