use Rattle.std.proofs.Common.{arith, subst, None}
use Rattle.std.specs.Int.{w64}
use Rattle.std.specs.Ordering.{int_eq}
use Rattle.std.proofs.lemmas.Int.{ints, to_z-of_z}
use Rattle.int_domain.specs.declared.narrow.Narrow.TheVariants.{Same, Empty}
use Rattle.int_domain.specs.Narrowing.{Narrows}
use Rattle.int_domain.proofs.Narrowed.{fix_same, fix_empty, fix_changes, inside_from_has, outside_from_has, narrows_falls, one_sound, sized_one, none_keeps}
use Rattle.int_domain.proofs.domain.Domain.fix.Goals as goal

pub returns-then-not-has-clause-narrows : goal.returns-then-not-has-clause-narrows
returns-then-not-has-clause-narrows c =
    subst (λ xs. Narrows (λ x. int_eq x c.args.value) xs xs Empty) c.self.view_is
    (fix_empty c.self.inside.bitmap c.self.inside.low c.self.inside.high c.args.value
    (outside_from_has c.self.inside.bitmap c.self.inside.low c.self.inside.high c.args.value _ _ c.has.result c.self.view_is (to_z-of_z w64 c.args.value c.ranges.value) c.has.ensures c.if-not-has.true))

pub returns-then-self-clause-narrows : goal.returns-then-self-clause-narrows
returns-then-self-clause-narrows c =
    subst (λ xs. Narrows (λ x. int_eq x c.args.value) xs xs Same) c.self.view_is
    (fix_same c.self.inside.bitmap c.self.inside.low c.self.inside.high c.args.value
    (inside_from_has c.self.inside.bitmap c.self.inside.low c.self.inside.high c.args.value _ _ c.has.result c.self.view_is (to_z-of_z w64 c.args.value c.ranges.value) c.has.ensures c.if-not-has.false)
    (omega (arith, ints)))

pub invariant_of-self : goal.invariant_of-self
invariant_of-self c =
    let inside = inside_from_has c.self.inside.bitmap c.self.inside.low c.self.inside.high c.args.value _ _ c.has.result c.self.view_is (to_z-of_z w64 c.args.value c.ranges.value) c.has.ensures c.if-not-has.false in
    let sound = one_sound c.self.inside.bitmap c.self.inside.low c.self.inside.high c.args.value c.self.invariant.sound inside in
    sized_one _ _ c.args.value sound (omega (arith, ints)) (omega (arith, ints))

pub returns-clause-narrows : goal.returns-clause-narrows
returns-clause-narrows c =
    let inside = inside_from_has c.self.inside.bitmap c.self.inside.low c.self.inside.high c.args.value _ _ c.has.result c.self.view_is (to_z-of_z w64 c.args.value c.ranges.value) c.has.ensures c.if-not-has.false in
    rw (← c.self.view_is) (fix_changes c.self.inside.bitmap None c.self.inside.low c.self.inside.high c.args.value _ _ c.self.invariant.sound
    inside (λ one. absurd (omega (arith, ints)))
    (none_keeps c.self.inside.bitmap c.args.value inside.2)
    (omega (arith, ints)) (omega (arith, ints)))

pub returns-clause-falls : goal.returns-clause-falls
returns-clause-falls c = λ _. narrows_falls (λ x. int_eq x c.args.value) _ _ (returns-clause-narrows c)
