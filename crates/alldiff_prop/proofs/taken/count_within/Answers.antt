use Rattle.std.proofs.Common.{arith}
use Rattle.std.proofs.lemmas.Int.{ints}
use Rattle.alldiff_prop.proofs.Sorting.{rises_climbs, within_is}
use Rattle.alldiff_prop.proofs.taken.count_within.Goals as goal

pub count_below-requires : goal.count_below-requires
count_below-requires c = rises_climbs _ c.requires.rises

pub count_below-requires-2 : goal.count_below-requires-2
count_below-requires-2 c = rises_climbs _ c.requires.rises

pub overflow_sub-result : goal.overflow_sub-result
overflow_sub-result c =
    let w = within_is _ _ _ _ _ _ c.requires.order (omega (arith, ints)) c.count_below-2.ensures c.count_below.ensures in
    omega (arith, w)

pub returns : goal.returns
returns c =
    let w = within_is _ _ _ _ _ _ c.requires.order (omega (arith, ints)) c.count_below-2.ensures c.count_below.ensures in
    omega (arith, w)
