use Rattle.std.proofs.Common.{◌≡◌, arith, sym, ◌∙◌, refl}
use Rattle.dom_store.specs.declared.pass.Passed.TheVariants.{Done, Empty}
use Rattle.explorer.proofs.Edges.{base_start, base_more, base_all, none_meets}
use Rattle.explorer.proofs.edge.follow.Goals as goal

pub loop-decision-init : goal.loop-decision-init
loop-decision-init c = record {
  saved = refl;
  settled = refl;
  reached = base_start c.args.task.now.model.now c.args.path.now c.args.store.now.box c.requires.domains c.recall_domains.ensures.domains;
}

pub returns-in-Empty-clause-none : goal.returns-in-Empty-clause-none
returns-in-Empty-clause-none c = λ e. none_meets c.args.task.now.model.now c.args.path.now c.loop-decision.decision-index _ c.loop-decision.store.box c.loop-decision-test.true c.loop-decision.invariant.reached (c.cut.ensures.none c.in-Empty.is)

some_stays : Done ≡ Empty → ⊥
some_stays e = cc

pub loop-decision-preserved : goal.loop-decision-preserved
loop-decision-preserved c = record {
  saved = c.cut.ensures.saved ∙ c.loop-decision.invariant.saved;
  settled = c.cut.ensures.settled ∙ c.loop-decision.invariant.settled;
  reached = base_more c.args.task.now.model.now c.args.path.now c.loop-decision.decision-index _ c.loop-decision.store.box c.cut.new.store.box c.loop-decision-test.true c.loop-decision.invariant.reached (c.cut.ensures.cuts (λ e. some_stays (sym c.in-Done.is ∙ e)));
}

pub returns-clause-base : goal.returns-clause-base
returns-clause-base c = λ e. base_all c.args.task.now.model.now c.args.path.now c.loop-decision.decision-index c.loop-decision.store.box (omega arith) c.loop-decision.invariant.reached
