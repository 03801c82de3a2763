use Rattle.cumul_prop.specs.Parts.{IsProfileTo}
use Rattle.cumul_prop.proofs.profile.add_begins.Given as goal

abbrev pub invariant-loop-at : goal.invariant-loop-at
invariant-loop-at l = IsProfileTo l.all l.at 0 l.profile.items
