use Rattle.std.proofs.Common.{arith, refl, pos}
use Rattle.std.proofs.lemmas.Int.{ints}
use Rattle.rest_forms.specs.declared.used_runs.Change.{Change}
use Rattle.rest_forms.proofs.SweptRuns.{swept_none, next_change, can_step, swept_step, swept_all, none_left}
use Rattle.rest_forms.proofs.used_runs.used_runs.Goals as goal

pub loop-change-init : goal.loop-change-init
loop-change-init c =
    let changes = rw (← c.deref-change-items.ensures.value) at c.in_ok-changes.ensures in
    record {
      changes = changes;
      swept = swept_none c.args.used.now c.deref-change-items.result.now (record { runs = c.new.result; last = _; amount = pos 0 }) changes c.new.ensures.items refl refl;
      small = omega arith;
    }

pub step-requires : goal.step-requires
step-requires c =
    let cs = c.deref-change-items.result.now in
    let d : Change = record { moment = pos 0; amount = pos 0 } in
    let small = c.loop-change.invariant.changes.small c.loop-change.change-index d c.loop-change-test.true in
    let count = c.loop-change.invariant.changes.count in
    can_step c.args.used.now _ _ _ c.loop-change.sweep c.requires (next_change cs c.loop-change.change-index d c.loop-change-test.true) c.loop-change.invariant.swept (omega (arith, count, c.loop-change.invariant.small, c.loop-change-test.true)) small

pub loop-change-preserved : goal.loop-change-preserved
loop-change-preserved c =
    let cs = c.deref-change-items.result.now in
    let d : Change = record { moment = pos 0; amount = pos 0 } in
    let small = c.loop-change.invariant.changes.small c.loop-change.change-index d c.loop-change-test.true in
    let amount = c.in_ok-step.ensures.amount in
    record {
      changes = c.loop-change.invariant.changes;
      swept = swept_step c.args.used.now _ _ _ c.loop-change.sweep c.step.new.sweep (next_change cs c.loop-change.change-index d c.loop-change-test.true) c.loop-change.invariant.swept c.in_ok-step.ensures;
      small = omega (arith, ints, small, amount, c.loop-change.invariant.small);
    }

pub returns : goal.returns
returns c = rw c.from_vec.ensures (swept_all c.args.used.now _ c.loop-change.sweep (none_left c.deref-change-items.result.now c.loop-change.change-index c.loop-change-test.false) c.loop-change.invariant.swept)
