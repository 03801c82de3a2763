use Rattle.alldiff_prop.proofs.Gathering.{highs_are}
use Rattle.alldiff_prop.proofs.highs.put_highs.Goals as goal

pub returns : goal.returns
returns c = highs_are _ _ _ _ _ c.requires.ready c.in_ok-highs_by_member.ensures c.sort_unstable.ensures.permutation c.sort_unstable.ensures.sorted
