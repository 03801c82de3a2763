use Rattle.std.proofs.Common.{arith, subst}
use Rattle.std.specs.Prelude.{int_le}
use Rattle.std.proofs.lemmas.Int.{ints}
use Rattle.int_domain.specs.declared.narrow.Narrow.TheVariants.{Same, Empty}
use Rattle.int_domain.specs.Narrowing.{Narrows}
use Rattle.int_domain.proofs.Narrowed.{reaches_part, sound_after, cut_below_same, cut_below_empty, cut_below_changes, narrows_falls, sized_at}
use Rattle.int_domain.proofs.domain.Domain.cut_below.Goals as goal

pub returns-then-low-self-clause-narrows : goal.returns-then-low-self-clause-narrows
returns-then-low-self-clause-narrows c =
    subst (λ xs. Narrows (λ x. int_le c.args.low x) xs xs Same) c.self.view_is (cut_below_same c.self.inside.bitmap c.self.inside.low c.self.inside.high c.args.low (omega (arith, ints)))

pub returns-then-low-self-2-clause-narrows : goal.returns-then-low-self-2-clause-narrows
returns-then-low-self-2-clause-narrows c =
    subst (λ xs. Narrows (λ x. int_le c.args.low x) xs xs Empty) c.self.view_is (cut_below_empty c.self.inside.bitmap c.self.inside.low c.self.inside.high c.args.low (omega (arith, ints)))

pub first_kept-first-requires-clause-reached : goal.first_kept-first-requires-clause-reached
first_kept-first-requires-clause-reached c = reaches_part c.self.inside.bitmap c.self.inside.low c.self.inside.high _ _ c.self.invariant.sound.hull (omega (arith, ints)) (omega (arith, ints))

pub fit-requires-clause-reached : goal.fit-requires-clause-reached
fit-requires-clause-reached c = reaches_part c.self.inside.bitmap c.self.inside.low c.self.inside.high _ _ c.self.invariant.sound.hull (omega (arith, ints)) (omega (arith, ints))

pub count_kept-self-inside-requires-clause-reached : goal.count_kept-self-inside-requires-clause-reached
count_kept-self-inside-requires-clause-reached c = reaches_part c.fit.new.bitmap _ _ _ _ c.fit.ensures.hull (omega (arith, ints)) (omega (arith, ints))

pub invariant_of-self : goal.invariant_of-self
invariant_of-self c = record {
  sound = sound_after c.self.inside.bitmap c.fit.new.bitmap c.self.inside.low c.self.inside.high c.first_kept-first.result c.self.inside.high _ _ _ _ c.self.invariant.sound
      (omega (arith, ints)) (omega (arith, ints)) (omega (arith, ints)) c.first_kept-first.ensures.kept c.self.invariant.sound.high_kept
      (omega (arith, ints)) (omega (arith, ints)) c.fit.ensures.hull
      (λ v p q. c.fit.ensures.same v (omega (arith, ints, p)) (omega (arith, ints, q)))
      (omega (arith, ints)) (omega (arith, ints));
  counted = sized_at c.fit.new.bitmap _ _ _ _ _ c.count_kept-self-inside.ensures (omega (arith, ints)) (omega (arith, ints));
}

pub returns-clause-narrows : goal.returns-clause-narrows
returns-clause-narrows c =
    rw (← c.self.view_is) (cut_below_changes c.self.inside.bitmap c.fit.new.bitmap c.self.inside.low c.self.inside.high c.args.low c.first_kept-first.result _ _ c.self.invariant.sound
    (omega (arith, ints)) (omega (arith, ints))
    (λ v p q. c.first_kept-first.ensures.below v (omega (arith, ints, p)) q)
    (λ v p q. c.fit.ensures.same v (omega (arith, ints, p)) (omega (arith, ints, q)))
    (omega (arith, ints)) (omega (arith, ints)))

pub returns-clause-falls : goal.returns-clause-falls
returns-clause-falls c = λ _. narrows_falls (λ x. int_le c.args.low x) _ _ (returns-clause-narrows c)
