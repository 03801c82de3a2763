use Rattle.std.proofs.Common.{arith, refl}
use Rattle.std.proofs.lemmas.Int.{ints}
use Rattle.int_domain.proofs.Marks.{marked_at, marks_same, place_for}
use Rattle.int_domain.proofs.bitmap.mark_run.Goals as goal

pub returns-clause-inside : goal.returns-clause-inside
returns-clause-inside c = λ v p q.
    let place = place_for c.args.bitmap.now.base v (omega (arith, ints, p, c.requires.covered.from)) in
    marked_at _ v place.0 place.1 (c.set_ones.ensures.inside place.0 (omega (arith, ints, place.1)) (omega (arith, ints, place.1)))

pub returns-clause-below : goal.returns-clause-below
returns-clause-below c = λ v covered p.
    let place = place_for c.args.bitmap.now.base v covered.from in
    marks_same _ c.args.bitmap.now v place.0 refl place.1 (c.set_ones.ensures.below place.0 (omega (arith, ints, place.1)))

pub returns-clause-above : goal.returns-clause-above
returns-clause-above c = λ v covered p.
    let place = place_for c.args.bitmap.now.base v covered.from in
    marks_same _ c.args.bitmap.now v place.0 refl place.1 (c.set_ones.ensures.above place.0 (omega (arith, ints, place.1)))
