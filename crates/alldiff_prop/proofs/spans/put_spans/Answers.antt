use Rattle.alldiff_prop.proofs.Spanning.{spans_are}
use Rattle.alldiff_prop.proofs.spans.put_spans.Goals as goal

pub returns : goal.returns
returns c = spans_are _ _ _ _ c.requires c.in_ok-spans_by_member.ensures c.sort_unstable.ensures.permutation c.sort_unstable.ensures.sorted
