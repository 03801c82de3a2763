use Rattle.std.proofs.Common.{arith}
use Rattle.std.proofs.lemmas.Int.{ints}
use Rattle.int_domain.proofs.Marks.{marked_at, place_for}
use Rattle.int_domain.proofs.bitmap.all_marked.Goals as goal

pub returns-clause-marked : goal.returns-clause-marked
returns-clause-marked c = λ v covered.
    let place = place_for _ v covered.from in
    marked_at _ v place.0 place.1 (c.all_ones.ensures _ (omega (arith, ints, place.1, covered.to)))
