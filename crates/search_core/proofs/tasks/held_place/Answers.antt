use Rattle.std.proofs.Common.{arith, ◌-◌}
use Rattle.search_core.specs.Tasks.{AreNodes}
use Rattle.search_core.proofs.Replacing.{held_missing}
use Rattle.search_core.proofs.tasks.held_place.Goals as goal

pub is_held-requires : goal.is_held-requires
unfolding AreNodes
is_held-requires c = c.requires (c.loop-left.left - 1) _ (omega (arith, c.loop-left.invariant.within))

pub returns-clause-none : goal.returns-clause-none
returns-clause-none c = held_missing _ _ _ _ _ c.loop-left.invariant c.loop-left-test.false
