use Rattle.std.proofs.Common.{arith, ◌-◌}
use Rattle.search_core.specs.Tasks.{AreNodes}
use Rattle.search_core.proofs.Replacing.{settled_missing}
use Rattle.search_core.proofs.tasks.side_place.Goals as goal

pub is_settled_side-requires : goal.is_settled_side-requires
unfolding AreNodes
is_settled_side-requires c = c.requires (c.loop-left.left - 1) _ (omega (arith, c.loop-left.invariant.within))

pub returns-clause-none : goal.returns-clause-none
returns-clause-none c = λ bound. settled_missing _ _ _ _ _ bound c.loop-left.invariant c.loop-left-test.false
