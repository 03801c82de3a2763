use Rattle.std.proofs.Common.{arith}
use Rattle.prop_engine.proofs.Flattening.{order_at}
use Rattle.prop_engine.proofs.flat_lists.list_at.Goals as goal

pub part-requires-clause-order : goal.part-requires-clause-order
part-requires-clause-order c = (order_at c.args.starts.now _ c.args.at c.requires (omega (arith, c.if-starts-at.false))).0

pub part-requires-clause-inside : goal.part-requires-clause-inside
part-requires-clause-inside c = (order_at c.args.starts.now _ c.args.at c.requires (omega (arith, c.if-starts-at.false))).1
