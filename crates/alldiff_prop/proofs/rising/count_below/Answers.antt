use Rattle.std.proofs.Common.{rules}
use Rattle.std.specs.Prelude.{int_lt}
use Rattle.std.proofs.lemmas.List.Sorted.{IsPartitionPoint-from_clause}
use Rattle.alldiff_prop.proofs.Sorting.{parted, split_at}
use Rattle.alldiff_prop.proofs.rising.count_below.Goals as goal

pub returns : goal.returns
returns c =
    let point = IsPartitionPoint-from_clause (λ x. int_lt x c.args.number.now) _ _ c.partition_point.ensures.partitioned (parted _ c.args.number.now c.requires) (λ a r q k. search rules) in
    split_at _ _ _ c.partition_point.ensures.bound point
