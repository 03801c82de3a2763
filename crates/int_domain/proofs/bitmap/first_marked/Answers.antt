use Rattle.std.proofs.Common.{arith}
use Rattle.std.proofs.lemmas.Int.{ints}
use Rattle.int_domain.proofs.Marks.{bit_from_marks, marked_at, unmarked_at, place_for}
use Rattle.int_domain.proofs.bitmap.first_marked.Goals as goal

pub first_one-place-requires-clause-one : goal.first_one-place-requires-clause-one
first_one-place-requires-clause-one c = bit_from_marks c.args.bitmap.now c.args.last c.place_of-2.result (omega (arith, ints)) c.requires.marked

pub returns-clause-marked : goal.returns-clause-marked
returns-clause-marked c = marked_at c.args.bitmap.now _ c.first_one-place.result (omega (arith, ints)) c.first_one-place.ensures.one

pub returns-clause-below : goal.returns-clause-below
returns-clause-below c = λ v p q.
    let place = place_for c.args.bitmap.now.base v (omega (arith, ints, p, c.requires.covered.from)) in
    unmarked_at c.args.bitmap.now v place.0 place.1 (c.first_one-place.ensures.below place.0 (omega (arith, ints, place.1)) (omega (arith, ints, place.1)))
