use Rattle.std.proofs.lemmas.List.Filters.{dedup_is}
use Rattle.alldiff_prop.proofs.Sorting.{rising_is}
use Rattle.alldiff_prop.proofs.rising.make_rising.Goals as goal

pub returns : goal.returns
returns c = rising_is _ _ _ c.sort_unstable.ensures.permutation c.sort_unstable.ensures.sorted (dedup_is _ _ _ c.dedup.ensures.filtered)
