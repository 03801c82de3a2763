use Rattle.std.proofs.Common.{subst}
use Rattle.fzn_model.specs.Parts.{Parts}
use Rattle.command_line.specs.Lines.{asked_of}
use Rattle.cachesolve_cli.specs.Stages.{EndsSolving}
use Rattle.cachesolve_cli.proofs.running.produce.Goals as goal

pub returns-in-Ok : goal.returns-in-Ok
returns-in-Ok g c = subst (λ (m : Parts). EndsSolving (asked_of c.args.line.now) m c.args.meter.now c.settle.new.meter (g.O.Sink.written c.args.out.now) (g.O.Sink.written c.settle.new.out) (g.O.Sink.faults c.args.out.now) (g.O.Sink.faults c.settle.new.out) c.settle.result) c.in-Ok.ensures c.settle.ensures
