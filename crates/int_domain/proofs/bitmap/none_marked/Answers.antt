use Rattle.std.proofs.Common.{arith}
use Rattle.std.proofs.lemmas.Int.{ints}
use Rattle.int_domain.proofs.Marks.{unmarked_at, place_for, bit_of_none}
use Rattle.int_domain.proofs.bitmap.none_marked.Goals as goal

pub returns-clause-none : goal.returns-clause-none
returns-clause-none c = λ v covered.
    let place = place_for _ v covered.from in
    unmarked_at _ v place.0 place.1 (bit_of_none _ (omega (arith, ints, place.1, covered.to)))
