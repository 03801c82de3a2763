use Rattle.std.proofs.Common.{rules, IsTrue}
use Rattle.rest_key.proofs.Amounts.{ends_more, gaps_more}
use Rattle.rest_key.proofs.used.are_apart.Goals as goal

pub loop-k-preserved : goal.loop-k-preserved
loop-k-preserved c =
    let follows : IsTrue c.follows.result = search rules in
    record {
      ends = ends_more _ _ c.loop-k.invariant.ends (c.follows.ensures.ends follows);
      gaps = gaps_more _ _ c.loop-k.invariant.gaps c.loop-k.invariant.ends (c.follows.ensures.gap follows);
    }
