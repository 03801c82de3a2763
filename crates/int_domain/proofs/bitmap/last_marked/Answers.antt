use Rattle.std.proofs.Common.{arith}
use Rattle.std.proofs.lemmas.Int.{ints}
use Rattle.int_domain.proofs.Marks.{bit_from_marks, marked_at, unmarked_at, place_for}
use Rattle.int_domain.proofs.bitmap.last_marked.Goals as goal

pub last_one-place-requires-clause-one : goal.last_one-place-requires-clause-one
last_one-place-requires-clause-one c = bit_from_marks c.args.bitmap.now c.args.first c.place_of.result (omega (arith, ints)) c.requires.marked

pub returns-clause-marked : goal.returns-clause-marked
returns-clause-marked c = marked_at c.args.bitmap.now _ c.last_one-place.result (omega (arith, ints)) c.last_one-place.ensures.one

pub returns-clause-above : goal.returns-clause-above
returns-clause-above c = λ v p q.
    let place = place_for c.args.bitmap.now.base v (omega (arith, ints, p)) in
    unmarked_at c.args.bitmap.now v place.0 place.1 (c.last_one-place.ensures.above place.0 (omega (arith, ints, place.1)) (omega (arith, ints, place.1)))
