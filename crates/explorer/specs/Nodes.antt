-- A node of the search: a path, and a box that still has what is cheap enough on it. It is this project's own.
use Rattle.std.specs.Prelude.{List, ℤ, ◌<ℤ◌}
use Rattle.fzn_model.specs.Parts.{Parts}
use Rattle.fzn_model.specs.Solutions.{Solves, cost}
use Rattle.fzn_model.specs.Boxes.{IsBox, InBox}
use Rattle.fzn_model.specs.Rests.{LiesWithin}
use Rattle.search_core.specs.declared.decision.Decision.{Decision}
use Rattle.search_core.specs.Paths.{Meets}

-- The box has each solution of the path that costs less than the bound, and it lies in the path and in the model's domains.
pub record IsNode (m : Parts) (p : List Decision) (box : List (List ℤ)) (b : ℤ) : Type 0 where
  pub keeps : (θ : List ℤ) → Solves m θ → Meets p θ → cost m θ <ℤ b → InBox box θ
  pub lies : (θ : List ℤ) → InBox box θ → Meets p θ
  pub within : LiesWithin box m
  pub domains : IsBox box
