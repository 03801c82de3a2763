use Rattle.std.proofs.Common.{rules, List, ℕ, sym, subst, refl}
use Rattle.command_line.specs.Lines.{asked_of}
use Rattle.cachesolve_cli.specs.Stages.{IsAll}
use Rattle.cachesolve_cli.proofs.Serving.{made_ends, file_ends}
use Rattle.cachesolve_cli.proofs.running.follow.Goals as goal

pub returns-in-Some-clause-ends : goal.returns-in-Some-clause-ends
returns-in-Some-clause-ends g c = (
  c.produce.result,
  c.finish.ensures.status,
  made_ends (asked_of c.args.asked.now) (c.in-Some.field-0-0.now, c.in-Some.number) c.in-Some.number (g.S.Source.left c.args.source.now) (g.S.Source.chosen c.args.source.now) (g.S.Source.faults c.args.source.now) (g.S.Source.faults c.args.source.now) c.args.meter.now c.produce.new.meter (g.O.Sink.written c.args.out.now) (g.O.Sink.written c.produce.new.out) (g.O.Sink.faults c.args.out.now) (g.O.Sink.faults c.produce.new.out) c.produce.result (search rules) refl refl c.produce.ensures,
  c.finish.ensures.says,
)

pub returns-clause-ends : goal.returns-clause-ends
returns-clause-ends g c =
    let all = subst (λ (bytes : List ℕ). IsAll (g.S.Source.left c.args.source.now) bytes) (sym c.as_slice.ensures.value) c.in-Ok.ensures.all in (
      c.proceed-end.result,
      c.finish-2.ensures.status,
      file_ends (asked_of c.args.asked.now) c.as_slice.result.now (g.S.Source.left c.args.source.now) (g.S.Source.chosen c.fetch.new.source) (g.S.Source.faults c.args.source.now) (g.S.Source.faults c.fetch.new.source) c.args.meter.now c.proceed-end.new.meter (g.O.Sink.written c.args.out.now) (g.O.Sink.written c.proceed-end.new.out) (g.O.Sink.faults c.args.out.now) (g.O.Sink.faults c.proceed-end.new.out) c.proceed-end.result (search rules) all c.in-Ok.ensures.chosen c.in-Ok.ensures.kept c.proceed-end.ensures,
      c.finish-2.ensures.says,
    )
