use Rattle.std.proofs.Common.{List, ℕ, subst}
use Rattle.std.specs.Prelude.{Contains}
use Rattle.prop_engine.proofs.queue.wake_list.Goals as goal

pub wake-requires : goal.wake-requires
wake-requires c = λ j has. c.requires j (subst (λ (xs : List ℕ). Contains xs j) c.get.ensures has)
