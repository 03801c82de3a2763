use Rattle.std.proofs.Common.{pos}
use Rattle.fzn_model.specs.declared.term.Term.TheVariants.{Const}
use Rattle.dom_store.proofs.Stepping.{each_none, each_more, each_all, step_end_after}
use Rattle.lin_prop.specs.Signed.{signed, signed_all}
use Rattle.dom_store.specs.Sums.{RisesWithin}
use Rattle.lin_prop.specs.Capped.{SumIsAtMost, IsLow}
use Rattle.lin_prop.proofs.Capping.{scaled_step, all_low}
use Rattle.lin_prop.proofs.capped.cap_terms.Goals as goal

pub loop-scaled-init : goal.loop-scaled-init
loop-scaled-init c = each_none (λ t. RisesWithin c.args.slack.now (signed c.args.negated t)) c.args.terms.now (SumIsAtMost (signed_all c.args.negated c.args.terms.now) c.args.most.now) c.args.store.now c.requires.well_formed

pub returns-in-Empty : goal.returns-in-Empty
returns-in-Empty c =
    let step = scaled_step c.args.negated c.args.store.now c.loop-scaled.store c.cap_scaled.new.store c.args.terms.now c.loop-scaled.scaled-index (pos 0, Const (pos 0)) c.args.most.now c.args.slack.now _ _ c.requires.well_formed c.requires.limits c.loop-scaled-test.true c.requires.sum c.loop-scaled.invariant c.in-Empty.ensures in
    step_end_after _ _ (IsLow (signed_all c.args.negated c.args.terms.now) c.args.most.now) (SumIsAtMost (signed_all c.args.negated c.args.terms.now) c.args.most.now) c.args.store.now c.loop-scaled.store c.cap_scaled.new.store c.loop-scaled.invariant step

pub loop-scaled-preserved : goal.loop-scaled-preserved
loop-scaled-preserved c =
    let step = scaled_step c.args.negated c.args.store.now c.loop-scaled.store c.cap_scaled.new.store c.args.terms.now c.loop-scaled.scaled-index (pos 0, Const (pos 0)) c.args.most.now c.args.slack.now _ _ c.requires.well_formed c.requires.limits c.loop-scaled-test.true c.requires.sum c.loop-scaled.invariant c.in-Done.ensures in
    each_more (λ t. RisesWithin c.args.slack.now (signed c.args.negated t)) c.args.terms.now c.loop-scaled.scaled-index (pos 0, Const (pos 0)) (SumIsAtMost (signed_all c.args.negated c.args.terms.now) c.args.most.now) c.args.store.now c.loop-scaled.store c.cap_scaled.new.store c.loop-scaled-test.true c.loop-scaled.invariant step

pub returns : goal.returns
returns c =
    all_low c.args.negated c.args.terms.now c.args.most.now c.args.slack.now c.args.store.now c.loop-scaled.store c.requires.slack c.requires.sum
    (each_all (λ t. RisesWithin c.args.slack.now (signed c.args.negated t)) c.args.terms.now c.loop-scaled.scaled-index (SumIsAtMost (signed_all c.args.negated c.args.terms.now) c.args.most.now) c.args.store.now c.loop-scaled.store c.loop-scaled-test.false c.loop-scaled.invariant)
