use Rattle.std.proofs.Common.{◌≡◌, take, map}
use Rattle.alldiff_prop.specs.Spans.{span_of}
use Rattle.alldiff_prop.proofs.spans.spans_by_member.Given as goal

abbrev pub invariant-loop-term : goal.invariant-loop-term
invariant-loop-term l = l.spans.items ≡ map (span_of l.store.box) (take l.term-index l.members)
