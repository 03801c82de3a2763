use Rattle.std.proofs.Common.{length}
use Rattle.cumul_prop.specs.Parts.{IsProfileTo}
use Rattle.cumul_prop.proofs.profile.add_ends.Given as goal

abbrev pub invariant-loop-at : goal.invariant-loop-at
invariant-loop-at l = IsProfileTo l.all (length l.all) l.at l.profile.items
