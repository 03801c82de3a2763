use Rattle.std.proofs.Common.{rules, subst}
use Rattle.std.specs.Prelude.{Some}
use Rattle.std.specs.declared.option.Option.{Option}
use Rattle.command_line.specs.declared.line.Line.{Line}
use Rattle.command_line.specs.Asked.{Asked}
use Rattle.command_line.specs.Lines.{line, asked_of}
use Rattle.cachesolve_cli.specs.Stages.{EndsAt}
use Rattle.cachesolve_cli.proofs.Serving.{good_line}
use Rattle.cachesolve_cli.proofs.running.serve.Goals as goal

pub returns-clause-ends : goal.returns-clause-ends
returns-clause-ends g c =
    let good = good_line c.in-Ok-Some.field-0 c.in-Ok-Some.asked (line c.args.words.now) (search rules) c.in-Ok-Some.ensures.line in
    subst (λ (a : Option Asked). EndsAt a (g.S.Source.left c.args.source.now) (g.S.Source.chosen c.follow.new.source) (g.S.Source.faults c.args.source.now) (g.S.Source.faults c.follow.new.source) c.args.meter.now c.follow.new.meter (g.O.Sink.written c.args.out.now) (g.O.Sink.written c.follow.new.out) (g.O.Sink.faults c.args.out.now) (g.O.Sink.faults c.follow.new.out) (g.E.Sink.written c.args.err.now) (g.E.Sink.written c.follow.new.err) (g.E.Sink.faults c.args.err.now) (g.E.Sink.faults c.follow.new.err) c.follow.result.code) good
    (subst (λ (l : Line). EndsAt (Some (asked_of l)) (g.S.Source.left c.args.source.now) (g.S.Source.chosen c.follow.new.source) (g.S.Source.faults c.args.source.now) (g.S.Source.faults c.follow.new.source) c.args.meter.now c.follow.new.meter (g.O.Sink.written c.args.out.now) (g.O.Sink.written c.follow.new.out) (g.O.Sink.faults c.args.out.now) (g.O.Sink.faults c.follow.new.out) (g.E.Sink.written c.args.err.now) (g.E.Sink.written c.follow.new.err) (g.E.Sink.faults c.args.err.now) (g.E.Sink.faults c.follow.new.err) c.follow.result.code) c.in-Ok-Some.asked-is c.follow.ensures.ends)
