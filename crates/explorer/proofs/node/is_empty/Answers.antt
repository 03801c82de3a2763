use Rattle.std.proofs.Common.{subst, rules}
use Rattle.std.proofs.lemmas.Bool.{false≢true}
use Rattle.fzn_model.specs.Limits.{IsModel}
use Rattle.prop_engine.specs.Plans.{Plan}
use Rattle.prop_engine.specs.Fixing.{FixedMeans}
use Rattle.explorer.proofs.Propagated.{propagated, not_empty}
use Rattle.explorer.proofs.Meeting.{is_for, fixed_node, means_settled}
use Rattle.explorer.proofs.node.is_empty.Goals as goal

pub fix_below-fixed-requires-clause-fits : goal.fix_below-fixed-requires-clause-fits
fix_below-fixed-requires-clause-fits c = is_for c.args.task.now.model.now c.args.here.now c.args.store.now.box c.args.seen.now c.args.engine.now (subst IsModel c.model.view_is c.model.invariant) c.requires.node c.requires.plan

pub returns-in-Empty-clause-node : goal.returns-in-Empty-clause-node
returns-in-Empty-clause-node c = fixed_node c.args.task.now.model.now c.args.here.now c.args.engine.now c.args.seen.now c.args.store.now c.fix_below-fixed.new.store c.requires.plan c.requires.node c.fix_below-fixed.ensures.fixes c.recall_domains.ensures.domains

pub returns-in-Empty-clause-settled : goal.returns-in-Empty-clause-settled
returns-in-Empty-clause-settled c = λ e. means_settled c.args.task.now.model.now c.args.here.now c.args.engine.now c.args.seen.now c.args.store.now.box c.fix_below-fixed.new.store.box c.in-Ok.answer c.requires.plan c.requires.node c.in-Ok.ensures.means c.in-Empty.is

pub returns-in-Kept : goal.returns-in-Kept
returns-in-Kept c = record {
  plan = search rules;
  saved = search rules;
  node = fixed_node c.args.task.now.model.now c.args.here.now c.args.engine.now c.args.seen.now c.args.store.now c.fix_below-fixed.new.store c.requires.plan c.requires.node c.fix_below-fixed.ensures.fixes c.recall_domains.ensures.domains;
  settled = λ e. absurd (false≢true e);
  reached = λ e. propagated c.args.task.now.model.now c.args.here.now c.args.store.now.box c.fix_below-fixed.new.store.box c.args.seen.now c.in-Ok.answer c.requires.node
      (fixed_node c.args.task.now.model.now c.args.here.now c.args.engine.now c.args.seen.now c.args.store.now c.fix_below-fixed.new.store c.requires.plan c.requires.node c.fix_below-fixed.ensures.fixes c.recall_domains.ensures.domains)
      (subst (λ (plan : Plan). FixedMeans plan c.args.seen.now c.args.store.now.box c.fix_below-fixed.new.store.box c.in-Ok.answer) c.requires.plan c.in-Ok.ensures.means) (not_empty c.in-Ok.answer c.in-Kept.is);
  ready = search rules;
}

pub returns-in-Err-clause-node : goal.returns-in-Err-clause-node
returns-in-Err-clause-node c = fixed_node c.args.task.now.model.now c.args.here.now c.args.engine.now c.args.seen.now c.args.store.now c.fix_below-fixed.new.store c.requires.plan c.requires.node c.fix_below-fixed.ensures.fixes c.recall_domains.ensures.domains
