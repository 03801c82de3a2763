-- What a right log says of its path.
use Rattle.std.proofs.Common.{◌≡◌, ℕ, List, ℤ, subst}
use Rattle.std.specs.declared.option.Option.{Option}
use Rattle.fzn_model.specs.Parts.{Parts}
use Rattle.entry_slab.specs.Entries.{Bounded}
use Rattle.search_core.specs.declared.decision.Decision.{Decision}
use Rattle.search_core.specs.Paths.{Settled}
use Rattle.run_log.specs.Texts.{Line}
use Rattle.explorer.specs.Trees.{Tree, leaf, hit, join, bound_of}
use Rattle.explorer.specs.RightLogs.{IsTrue, IsRightLog}

true_settles : (m : Parts) (limit : ℕ) (p : List Decision) (least : ℤ) (t : Tree) → IsTrue m limit p least t → Settled m p (bound_of t)
unfolding IsTrue
true_settles m limit p least (leaf solution bound) is = is.2
true_settles m limit p least (hit seen offset r bound place) is = is.3
true_settles m limit p least (join o first second bound stored) is = is.4

pub right_settles : (m : Parts) (limit ways : ℕ) (p : List Decision) (least : ℤ) (standing : List (Option Bounded)) (bound : ℤ) (lines : List Line) → IsRightLog m limit ways p least standing bound lines → Settled m p bound
right_settles m limit ways p least standing bound lines right = subst (λ b. Settled m p b) right.settled (true_settles m limit p least right.tree right.true_nodes)
