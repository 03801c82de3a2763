use Rattle.std.proofs.Common.{ℕ, List, subst}
use Rattle.std.specs.declared.option.Option.{Option}
use Rattle.cs_base.specs.Causes.{AppendsFront}
use Rattle.solution_out.specs.Outcomes.{outcome_text}
use Rattle.cachesolve_cli.proofs.Solving.{is_outcome}
use Rattle.cachesolve_cli.proofs.running.settle.Goals as goal

pub returns : goal.returns
returns g c =
    let o = c.in-Ok.outcome in
    let is = is_outcome c.args.model.now c.args.meter.now c.solve.new.meter o c.in-Ok.ensures.right c.in-Ok.ensures.nodes c.in-Ok.ensures.closed c.in-Ok.ensures.least in
    let text = subst (λ (word : Option (List ℕ)). AppendsFront (g.O.Sink.written c.args.out.now) (g.O.Sink.written c.write_outcome.new.out) (outcome_text word c.args.line.now.stats c.args.model.now o)) c.word_of.ensures c.in-Err.ensures.text in
    ((o, is, text), c.in-Err.ensures.cause.failed)
