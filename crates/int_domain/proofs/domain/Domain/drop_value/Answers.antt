use Rattle.std.proofs.Common.{arith, ◌∙◌, ◌≡◌, sym, ap, subst, refl, Some, to_z, of_z}
use Rattle.std.specs.Int.{w64}
use Rattle.std.proofs.lemmas.Int.{ints, to_z-of_z}
use Rattle.int_domain.specs.declared.narrow.Narrow.TheVariants.{Same, Empty}
use Rattle.int_domain.specs.Narrowing.{DropsValue}
use Rattle.int_domain.specs.Kept.{kept_between, keeps, FitsHull, IsSound}
use Rattle.int_domain.specs.Bits.{marks}
use Rattle.int_domain.proofs.Members.{Inside}
use Rattle.int_domain.proofs.Narrowed.{drop_absent, drop_only, drop_low, drop_high, inside_from_has, outside_from_has, covers_one, unmarked_others, unmarked_gone, unmarked_sound, drop_inside, drop_held, drops_falls, covers_all, sized_marked}
use Rattle.int_domain.proofs.domain.Domain.drop_value.Goals as goal

pub returns-then-not-has-clause-drops : goal.returns-then-not-has-clause-drops
returns-then-not-has-clause-drops c =
    subst (λ xs. DropsValue c.args.value xs xs Same) c.self.view_is
    (drop_absent c.self.inside.bitmap c.self.inside.low c.self.inside.high c.args.value
    (outside_from_has c.self.inside.bitmap c.self.inside.low c.self.inside.high c.args.value _ _ c.has.result c.self.view_is (to_z-of_z w64 c.args.value c.ranges.value) c.has.ensures c.if-not-has.true))

pub returns-then-self-clause-drops : goal.returns-then-self-clause-drops
returns-then-self-clause-drops c =
    subst (λ xs. DropsValue c.args.value xs xs Empty) c.self.view_is
    (drop_only c.self.inside.bitmap c.self.inside.low c.self.inside.high c.args.value c.self.invariant.sound
    (inside_from_has c.self.inside.bitmap c.self.inside.low c.self.inside.high c.args.value _ _ c.has.result c.self.view_is (to_z-of_z w64 c.args.value c.ranges.value) c.has.ensures c.if-not-has.false)
    (omega (arith, ints)))

pub returns-then-value-self-clause-drops : goal.returns-then-value-self-clause-drops
returns-then-value-self-clause-drops c =
    drop_low c.self.inside.bitmap c.self.inside.low c.self.inside.high c.args.value _ _ _ _ c.self.invariant.sound c.self.view_is c.cut_below.ensures.narrows (omega (arith, ints)) (omega (arith, ints))

pub returns-then-value-self-2-clause-drops : goal.returns-then-value-self-2-clause-drops
returns-then-value-self-2-clause-drops c =
    drop_high c.self.inside.bitmap c.self.inside.low c.self.inside.high c.args.value _ _ _ _ c.self.invariant.sound c.self.view_is c.cut_above.ensures.narrows (omega (arith, ints)) (omega (arith, ints))

pub unmark-requires : goal.unmark-requires
unmark-requires c =
    let here = inside_from_has c.self.inside.bitmap c.self.inside.low c.self.inside.high c.args.value _ _ c.has.result c.self.view_is (to_z-of_z w64 c.args.value c.ranges.value) c.has.ensures c.if-not-has.false in
    let fits : FitsHull (Some c.in-Some.bitmap) c.self.inside.low c.self.inside.high = subst (λ b. FitsHull b c.self.inside.low c.self.inside.high) c.in-Some.is c.self.invariant.sound.hull in
    covers_one c.in-Some.bitmap c.self.inside.low c.self.inside.high _ fits (omega (arith, ints, here.0)) (omega (arith, ints, here.1))

pub count_marked-self-inside-requires-clause-covered : goal.count_marked-self-inside-requires-clause-covered
count_marked-self-inside-requires-clause-covered c =
    let fits : FitsHull (Some c.in-Some.bitmap) c.self.inside.low c.self.inside.high = subst (λ b. FitsHull b c.self.inside.low c.self.inside.high) c.in-Some.is c.self.invariant.sound.hull in
    covers_all c.in-Some.bitmap c.unmark.new.bitmap c.self.inside.low c.self.inside.high _ _ fits c.unmark.ensures.base (omega (arith, ints)) (omega (arith, ints))

pub invariant_of-self : goal.invariant_of-self
invariant_of-self c =
    let plain : to_z w64 (of_z w64 c.args.value) ≡ c.args.value = to_z-of_z w64 c.args.value c.ranges.value in
    let sound : IsSound (Some c.in-Some.bitmap) c.self.inside.low c.self.inside.high = subst (λ b. IsSound b c.self.inside.low c.self.inside.high) c.in-Some.is c.self.invariant.sound in
    sized_marked c.unmark.new.bitmap _ _ _ _ _ c.count_marked-self-inside.ensures
    (unmarked_sound c.in-Some.bitmap c.unmark.new.bitmap c.self.inside.low c.self.inside.high c.args.value sound
    (λ e. c.if-value-self.false (ap (of_z w64) e)) (λ e. c.if-value-self-2.false (ap (of_z w64) e)) c.unmark.ensures.base
    (unmarked_others c.in-Some.bitmap c.unmark.new.bitmap c.self.inside.low c.self.inside.high c.args.value sound.hull
    (λ v covered apart. c.unmark.ensures.others v covered (λ e. apart (e ∙ plain)))))
    (omega (arith, ints)) (omega (arith, ints))

pub returns-in-Some-clause-drops : goal.returns-in-Some-clause-drops
returns-in-Some-clause-drops c =
    let plain : to_z w64 (of_z w64 c.args.value) ≡ c.args.value = to_z-of_z w64 c.args.value c.ranges.value in
    let here : Inside (keeps (Some c.in-Some.bitmap)) c.self.inside.low c.self.inside.high c.args.value = subst (λ b. Inside (keeps b) c.self.inside.low c.self.inside.high c.args.value) c.in-Some.is (inside_from_has c.self.inside.bitmap c.self.inside.low c.self.inside.high c.args.value _ _ c.has.result c.self.view_is (to_z-of_z w64 c.args.value c.ranges.value) c.has.ensures c.if-not-has.false) in
    let sound : IsSound (Some c.in-Some.bitmap) c.self.inside.low c.self.inside.high = subst (λ b. IsSound b c.self.inside.low c.self.inside.high) c.in-Some.is c.self.invariant.sound in
    let view : kept_between (Some c.in-Some.bitmap) c.self.inside.low c.self.inside.high ≡ c.args.self.now = subst (λ b. kept_between b c.self.inside.low c.self.inside.high ≡ c.args.self.now) c.in-Some.is c.self.view_is in
    let not_low : c.args.value ≡ c.self.inside.low → ⊥ = λ e. c.if-value-self.false (ap (of_z w64) e) in
    let not_high : c.args.value ≡ c.self.inside.high → ⊥ = λ e. c.if-value-self-2.false (ap (of_z w64) e) in
    rw (← view) (drop_inside c.in-Some.bitmap c.unmark.new.bitmap c.self.inside.low c.self.inside.high c.args.value _ _ sound here
    (omega (arith, ints, here.0)) (omega (arith, ints, here.1))
    (unmarked_gone c.unmark.new.bitmap c.args.value (ap (marks c.unmark.new.bitmap) (sym plain) ∙ c.unmark.ensures.gone))
    (unmarked_others c.in-Some.bitmap c.unmark.new.bitmap c.self.inside.low c.self.inside.high c.args.value sound.hull
    (λ v covered apart. c.unmark.ensures.others v covered (λ e. apart (e ∙ plain))))
    refl refl)

pub returns-in-Some-clause-falls : goal.returns-in-Some-clause-falls
returns-in-Some-clause-falls c = λ _. drops_falls c.args.value _ _ (returns-in-Some-clause-drops c)

pub returns-clause-drops : goal.returns-clause-drops
returns-clause-drops c =
    let here = inside_from_has c.self.inside.bitmap c.self.inside.low c.self.inside.high c.args.value _ _ c.has.result c.self.view_is (to_z-of_z w64 c.args.value c.ranges.value) c.has.ensures c.if-not-has.false in
    let not_low : c.args.value ≡ c.self.inside.low → ⊥ = λ e. c.if-value-self.false (ap (of_z w64) e) in
    let not_high : c.args.value ≡ c.self.inside.high → ⊥ = λ e. c.if-value-self-2.false (ap (of_z w64) e) in
    rw (← c.self.view_is) (drop_held c.self.inside.bitmap c.self.inside.low c.self.inside.high c.args.value c.in_default.is c.self.invariant.sound (omega (arith, ints, here.0)) (omega (arith, ints, here.1)))
