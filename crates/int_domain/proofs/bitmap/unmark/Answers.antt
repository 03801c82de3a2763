use Rattle.std.proofs.Common.{arith, refl}
use Rattle.std.proofs.lemmas.Int.{ints}
use Rattle.int_domain.proofs.Marks.{unmarked_at, marks_same, place_for}
use Rattle.int_domain.proofs.bitmap.unmark.Goals as goal

pub returns-clause-gone : goal.returns-clause-gone
returns-clause-gone c = unmarked_at _ c.args.value c.place_of-place.result (omega (arith, ints)) c.clear_one.ensures.cleared

pub returns-clause-others : goal.returns-clause-others
returns-clause-others c = λ v covered apart.
    let place = place_for c.args.bitmap.now.base v covered.from in
    marks_same _ c.args.bitmap.now v place.0 refl place.1
    (c.clear_one.ensures.others place.0 (omega (arith, ints, place.1, covered.to)) (λ same. apart (omega (arith, ints, place.1, same))))
