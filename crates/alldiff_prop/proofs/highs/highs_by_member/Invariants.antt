use Rattle.std.proofs.Common.{◌≡◌, take}
use Rattle.alldiff_prop.specs.Highs.{highs_of}
use Rattle.alldiff_prop.proofs.highs.highs_by_member.Given as goal

abbrev pub invariant-loop-term : goal.invariant-loop-term
invariant-loop-term l = l.highs.items ≡ highs_of l.store.box l.low (take l.term-index l.members)
