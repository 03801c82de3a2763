use Rattle.std.proofs.Common.{pos}
use Rattle.std.specs.Prelude.{slice_index_or}
use Rattle.dom_store.specs.Steps.{EachTo}
use Rattle.alldiff_prop.specs.Halls.{IsNarrowedFrom, AreNarrowed}
use Rattle.alldiff_prop.specs.Spans.{IsNarrowedSince}
use Rattle.dom_store.proofs.Laws.{prunes_trans}
use Rattle.alldiff_prop.proofs.Since.{clear_since, narrowed_since, narrowed_all}
use Rattle.dom_store.proofs.Stepping.{each_none, each_more, each_all, step_end_after}
use Rattle.alldiff_prop.proofs.Ready.{ready_after}
use Rattle.alldiff_prop.proofs.narrow.narrow_each.Goals as goal

pub loop-low-init : goal.loop-low-init
loop-low-init c = each_none (IsNarrowedSince c.args.store.now.box c.args.members.now c.args.taken.now) _ _ _ c.requires.ready.well_formed

pub narrow_from-requires-clause-ready : goal.narrow_from-requires-clause-ready
narrow_from-requires-clause-ready c = ready_after (EachTo (IsNarrowedSince c.args.store.now.box c.args.members.now c.args.taken.now) c.args.lows.now c.loop-low.low-index) _ _ _ _ _ c.loop-low.invariant c.requires.ready

pub returns-in_err-narrow_from-clause-prunes : goal.returns-in_err-narrow_from-clause-prunes
returns-in_err-narrow_from-clause-prunes c = prunes_trans _ _ _ _ c.loop-low.invariant.prunes c.narrow_from.ensures.prunes

pub returns-in-Empty-clause-prunes : goal.returns-in-Empty-clause-prunes
returns-in-Empty-clause-prunes c = prunes_trans _ _ _ _ c.loop-low.invariant.prunes c.narrow_from.ensures.prunes

pub loop-low-preserved-then-is_clear : goal.loop-low-preserved-then-is_clear
loop-low-preserved-then-is_clear c =
    clear_since c.args.members.now c.args.taken.now c.args.spans.now c.args.lows.now c.loop-low.low-index (pos 0) c.args.store.now c.loop-low.store c.loop-low-test.true c.requires.spans (c.is_clear.ensures c.if-is_clear.true) c.loop-low.invariant

pub returns-in-Empty-clause-steps : goal.returns-in-Empty-clause-steps
returns-in-Empty-clause-steps c =
    step_end_after (EachTo (IsNarrowedSince c.args.store.now.box c.args.members.now c.args.taken.now) c.args.lows.now c.loop-low.low-index) (IsNarrowedFrom c.args.members.now c.args.taken.now (slice_index_or c.args.lows.now c.loop-low.low-index (pos 0))) (AreNarrowed c.args.members.now c.args.taken.now) _ _ _ _ c.loop-low.invariant (rw c.in-Empty.is at c.in_ok-narrow_from.ensures.steps)

pub loop-low-preserved : goal.loop-low-preserved
loop-low-preserved c =
    each_more (IsNarrowedSince c.args.store.now.box c.args.members.now c.args.taken.now) _ c.loop-low.low-index (pos 0) _ _ _ _ c.loop-low-test.true c.loop-low.invariant
    (narrowed_since c.args.members.now c.args.taken.now (slice_index_or c.args.lows.now c.loop-low.low-index (pos 0)) c.args.store.now _ _ _ (rw c.in_default.is at c.in_ok-narrow_from.ensures.steps))

pub returns-clause-steps : goal.returns-clause-steps
returns-clause-steps c =
    narrowed_all _ _ _ _ _ _ c.requires.lows (each_all (IsNarrowedSince c.args.store.now.box c.args.members.now c.args.taken.now) _ c.loop-low.low-index _ _ _ c.loop-low-test.false c.loop-low.invariant)
