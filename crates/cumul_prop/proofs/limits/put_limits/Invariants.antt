use Rattle.cumul_prop.specs.Limits.{AreLimits}
use Rattle.cumul_prop.proofs.limits.put_limits.Given as goal

abbrev pub invariant-loop-at : goal.invariant-loop-at
invariant-loop-at l = record { limits : AreLimits l.store.box l.tasks l.used l.capacity l.at l.limits.items }
