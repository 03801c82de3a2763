use Rattle.alldiff_prop.proofs.Gathering.{lows_are}
use Rattle.alldiff_prop.proofs.spans.put_lows.Goals as goal

pub returns : goal.returns
returns c = lows_are _ _ _ _ c.requires c.in_ok-lows_by_member.ensures c.make_rising.ensures
