use Rattle.std.proofs.Common.{subst, sym, ◌∙◌}
use Rattle.std.proofs.lemmas.Bool.{false≢true}
use Rattle.search_core.specs.Paths.{Settled}
use Rattle.explorer.proofs.Leaves.{found_none, noted_none, other_settled}
use Rattle.explorer.proofs.node.close_fixed.Goals as goal

pub returns-else-satisfies-clause-finds : goal.returns-else-satisfies-clause-finds
returns-else-satisfies-clause-finds g c = found_none c.args.task.now.model.now c.args.pass.now c.args.meter.now c.args.found.now

pub returns-else-satisfies-clause-settled : goal.returns-else-satisfies-clause-settled
returns-else-satisfies-clause-settled g c =
    subst (λ b. Settled c.args.task.now.model.now c.args.here.now b) c.requires.seen
    (other_settled c.args.task.now.model.now c.args.here.now c.args.values.now c.args.seen.now c.requires.only (λ s. false≢true (sym c.if-satisfies.false ∙ c.satisfies.ensures.1 s)))

pub returns-else-satisfies-clause-notes : goal.returns-else-satisfies-clause-notes
returns-else-satisfies-clause-notes g c = noted_none c.args.task.now.model.now c.args.here.now c.args.pass.now c.args.meter.now (g.J.Journal.noted c.args.journal.now)
