use Rattle.std.proofs.Common.{refl, arith, pos, ◌-◌, ◌<ℤ◌, ◌≤ℤ◌}
use Rattle.std.specs.Prelude.{slice_index_or}
use Rattle.std.proofs.lemmas.Int.{ints}
use Rattle.fzn_model.specs.Bounds.{term_low}
use Rattle.alldiff_prop.specs.Strict.{HighIsBelow, LowIsAbove}
use Rattle.alldiff_prop.specs.Halls.{IsApart}
use Rattle.alldiff_prop.proofs.Clearing.{cap_spares, apart_around, capped_apart, raise_spares, raised_apart, passed_apart}
use Rattle.dom_store.proofs.Stepping.{narrowed, step_as, step_idle}
use Rattle.alldiff_prop.proofs.narrow.narrow_member.Goals as goal

pub returns-then-ended-fulls : goal.returns-then-ended-fulls
returns-then-ended-fulls c =
    let before : term_low c.args.store.now.box c.args.term <ℤ c.args.low.now = omega (arith, ints, c.least.ensures.value, c.if-least-low.true) in
    step_idle (IsApart c.args.low.now c.args.fulls.now c.args.term) _ _ c.requires.ready.well_formed
    (apart_around _ _ _ _ _ _ before refl c.count_ended-ended.ensures c.if-ended-fulls.true)

pub returns-then-least-low : goal.returns-then-least-low
returns-then-least-low c =
    let before : term_low c.args.store.now.box c.args.term <ℤ c.args.low.now = omega (arith, ints, c.least.ensures.value, c.if-least-low.true) in
    step_as (HighIsBelow c.args.term c.args.low.now) (IsApart c.args.low.now c.args.fulls.now c.args.term) _ _ _ _
    (λ same ends. capped_apart _ _ _ _ _ before same ends)
    (narrowed _ c.keep_below.ensures (cap_spares _ _ _ _ _ _ _ _ c.requires.ready c.requires.full c.requires.member before refl c.count_ended-ended.ensures (omega (arith, c.count_ended-ended.ensures.within, c.if-ended-fulls.false))))

pub returns-then-ended-eq0 : goal.returns-then-ended-eq0
returns-then-ended-eq0 c =
    let after : c.args.low.now ≤ℤ term_low c.args.store.now.box c.args.term = omega (arith, ints, c.least.ensures.value, c.if-least-low.false) in
    step_idle (IsApart c.args.low.now c.args.fulls.now c.args.term) _ _ c.requires.ready.well_formed
    (raised_apart _ _ _ _ _ _ c.requires.full.climbs after refl c.count_ended-ended.ensures (λ d some. absurd (omega (arith, some, c.if-ended-eq0.true))))

pub returns : goal.returns
returns c =
    let after : c.args.low.now ≤ℤ term_low c.args.store.now.box c.args.term = omega (arith, ints, c.least.ensures.value, c.if-least-low.false) in
    let number = slice_index_or c.args.fulls.now (c.count_ended-ended.result - 1) (pos 0) in
    step_as (LowIsAbove c.args.term number) (IsApart c.args.low.now c.args.fulls.now c.args.term) _ _ _ _
    (λ same past. passed_apart _ _ _ _ _ _ (pos 0) number c.requires.full.climbs after c.count_ended-ended.ensures (omega (arith, c.if-ended-eq0.false)) refl same past)
    (narrowed _ c.keep_above.ensures (raise_spares _ _ _ _ _ _ number (c.count_ended-ended.result - 1) _ (pos 0) _ c.requires.ready c.requires.full c.requires.member after refl c.count_ended-ended.ensures (omega (arith, c.if-ended-eq0.false)) refl))
