use Rattle.std.proofs.Common.{pos, length}
use Rattle.fzn_model.specs.declared.term.Term.TheVariants.{Const}
use Rattle.dom_store.specs.Steps.{EachTo}
use Rattle.dom_store.specs.declared.pass.Passed.TheVariants as passed
use Rattle.dom_store.proofs.Stepping.{each_none, each_more, each_all, step_end_after}
use Rattle.lin_prop.specs.Capped.{RisesBoth, SumIsBoth}
use Rattle.lin_prop.proofs.Capping.{up_step, down_step}
use Rattle.lin_prop.proofs.Relating.{equal_both, both_none}
use Rattle.lin_prop.proofs.lin_prop.cap_both.Goals as goal

pub loop-scaled-init : goal.loop-scaled-init
loop-scaled-init c = each_none (RisesBoth c.args.up.now c.args.down.now) c.args.terms.now (SumIsBoth c.args.terms.now c.args.r.now) c.args.store.now c.requires.well_formed

pub loop-scaled-preserved : goal.loop-scaled-preserved
loop-scaled-preserved c =
    let first = up_step c.args.store.now c.loop-scaled.store c.cap_scaled.new.store c.args.terms.now c.loop-scaled.scaled-index (pos 0, Const (pos 0)) c.args.r.now c.args.up.now c.args.down.now passed.Done c.requires.well_formed c.requires.limits c.loop-scaled-test.true c.requires.above c.loop-scaled.invariant c.in-Done.ensures in
    let both = down_step c.args.store.now c.loop-scaled.store c.cap_scaled.new.store c.cap_scaled-in-loop-scaled.new.store c.args.terms.now c.loop-scaled.scaled-index (pos 0, Const (pos 0)) c.args.r.now c.args.up.now c.args.down.now passed.Done c.requires.well_formed c.requires.limits c.loop-scaled-test.true c.requires.below c.loop-scaled.invariant first c.in-Done-cap_scaled.ensures in
    each_more (RisesBoth c.args.up.now c.args.down.now) c.args.terms.now c.loop-scaled.scaled-index (pos 0, Const (pos 0)) (SumIsBoth c.args.terms.now c.args.r.now) c.args.store.now c.loop-scaled.store c.cap_scaled-in-loop-scaled.new.store c.loop-scaled-test.true c.loop-scaled.invariant both

pub returns-in-Empty : goal.returns-in-Empty
returns-in-Empty c =
    let first = up_step c.args.store.now c.loop-scaled.store c.cap_scaled.new.store c.args.terms.now c.loop-scaled.scaled-index (pos 0, Const (pos 0)) c.args.r.now c.args.up.now c.args.down.now passed.Empty c.requires.well_formed c.requires.limits c.loop-scaled-test.true c.requires.above c.loop-scaled.invariant c.in-Empty.ensures in
    let all = EachTo (RisesBoth c.args.up.now c.args.down.now) c.args.terms.now (length c.args.terms.now) in
    both_none c.args.terms.now c.args.r.now all c.args.store.now c.cap_scaled.new.store
    (step_end_after _ _ all (SumIsBoth c.args.terms.now c.args.r.now) c.args.store.now c.loop-scaled.store c.cap_scaled.new.store c.loop-scaled.invariant first)

pub returns-in-Empty-cap_scaled : goal.returns-in-Empty-cap_scaled
returns-in-Empty-cap_scaled c =
    let first = up_step c.args.store.now c.loop-scaled.store c.cap_scaled.new.store c.args.terms.now c.loop-scaled.scaled-index (pos 0, Const (pos 0)) c.args.r.now c.args.up.now c.args.down.now passed.Done c.requires.well_formed c.requires.limits c.loop-scaled-test.true c.requires.above c.loop-scaled.invariant c.in-Done.ensures in
    let both = down_step c.args.store.now c.loop-scaled.store c.cap_scaled.new.store c.cap_scaled-in-loop-scaled.new.store c.args.terms.now c.loop-scaled.scaled-index (pos 0, Const (pos 0)) c.args.r.now c.args.up.now c.args.down.now passed.Empty c.requires.well_formed c.requires.limits c.loop-scaled-test.true c.requires.below c.loop-scaled.invariant first c.in-Empty-cap_scaled.ensures in
    let all = EachTo (RisesBoth c.args.up.now c.args.down.now) c.args.terms.now (length c.args.terms.now) in
    both_none c.args.terms.now c.args.r.now all c.args.store.now c.cap_scaled-in-loop-scaled.new.store
    (step_end_after _ _ all (SumIsBoth c.args.terms.now c.args.r.now) c.args.store.now c.loop-scaled.store c.cap_scaled-in-loop-scaled.new.store c.loop-scaled.invariant both)

pub returns : goal.returns
returns c =
    equal_both c.args.terms.now c.args.r.now c.args.up.now c.args.down.now c.args.store.now c.loop-scaled.store c.requires.limits c.requires.up c.requires.down c.requires.above c.requires.below
    (each_all (RisesBoth c.args.up.now c.args.down.now) c.args.terms.now c.loop-scaled.scaled-index (SumIsBoth c.args.terms.now c.args.r.now) c.args.store.now c.loop-scaled.store c.loop-scaled-test.false c.loop-scaled.invariant)
