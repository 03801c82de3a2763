use Rattle.std.proofs.Common.{rules}
use Rattle.std.proofs.lemmas.List.Sorted.{IsPartitionPoint-from_clause}
use Rattle.bool_prop.proofs.Runs.{begins_by, begins_parted, begin_by_at}
use Rattle.bool_prop.proofs.neighbours.begin_by.Goals as goal

pub returns : goal.returns
returns c =
    let parted = begins_parted c.args.set.now c.args.number c.requires in
    let point = IsPartitionPoint-from_clause (begins_by c.args.number) _ _ c.partition_point.ensures.partitioned parted (λ a r q k. search rules) in
    begin_by_at _ _ _ c.partition_point.ensures.bound point
