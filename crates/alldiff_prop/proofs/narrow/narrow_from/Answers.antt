use Rattle.std.proofs.Common.{length, sym, subst}
use Rattle.alldiff_prop.specs.Halls.{AreFull, IsNarrowedFrom}
use Rattle.alldiff_prop.specs.Highs.{IsHighs}
use Rattle.alldiff_prop.specs.Fulls.{AreFullsTo}
use Rattle.alldiff_prop.proofs.Crowding.{fulls_full, overfull_none}
use Rattle.alldiff_prop.proofs.Intervals.{narrowed_step}
use Rattle.dom_store.proofs.Stepping.{step_none}
use Rattle.alldiff_prop.proofs.narrow.narrow_from.Goals as goal

pub returns-then-not-branch-clause-steps : goal.returns-then-not-branch-clause-steps
returns-then-not-branch-clause-steps c =
    let are : IsHighs c.args.store.now.box c.args.members.now c.args.low.now c.as_slice.result.now = subst (IsHighs c.args.store.now.box c.args.members.now c.args.low.now) (sym c.as_slice.ensures.value) c.in_ok-put_highs.ensures in
    step_none (IsNarrowedFrom c.args.members.now c.args.taken.now c.args.low.now) _ _ c.requires.ready.well_formed (overfull_none _ _ _ _ _ c.requires.ready are (c.in_ok-put_fulls.ensures.over c.if-not-branch.true))

pub narrow_members-requires-clause-full : goal.narrow_members-requires-clause-full
narrow_members-requires-clause-full c =
    let are : IsHighs c.args.store.now.box c.args.members.now c.args.low.now c.as_slice.result.now = subst (IsHighs c.args.store.now.box c.args.members.now c.args.low.now) (sym c.as_slice.ensures.value) c.in_ok-put_highs.ensures in
    subst (λ fulls. AreFull c.args.members.now c.args.taken.now c.args.low.now fulls c.args.store.now.box) (sym c.as_slice-2.ensures.value) (fulls_full _ _ _ _ _ _ are (c.in_ok-put_fulls.ensures.full c.if-not-branch.false))

pub returns-clause-steps : goal.returns-clause-steps
returns-clause-steps c =
    let are : IsHighs c.args.store.now.box c.args.members.now c.args.low.now c.as_slice.result.now = subst (IsHighs c.args.store.now.box c.args.members.now c.args.low.now) (sym c.as_slice.ensures.value) c.in_ok-put_highs.ensures in
    let fulls : AreFullsTo c.args.taken.now c.args.low.now c.as_slice.result.now c.as_slice-2.result.now (length c.as_slice.result.now) = subst (λ l. AreFullsTo c.args.taken.now c.args.low.now c.as_slice.result.now l (length c.as_slice.result.now)) (sym c.as_slice-2.ensures.value) (c.in_ok-put_fulls.ensures.full c.if-not-branch.false) in
    narrowed_step _ _ _ _ _ _ _ _ are fulls c.narrow_members.ensures
