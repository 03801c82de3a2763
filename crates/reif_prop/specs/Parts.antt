-- Bases from their parts, and what is known of them over a box.
use Rattle.std.specs.Prelude.{List, length, ℤ}
use Rattle.fzn_model.specs.declared.term.Term.{Term}
use Rattle.fzn_model.specs.declared.lin.Rel.{Rel}
use Rattle.fzn_model.specs.declared.base.Base.{Base}
use Rattle.fzn_model.specs.declared.base.Base.TheVariants as base
use Rattle.fzn_model.specs.Limits.{BaseInLimits, of_call}
use Rattle.fzn_model.specs.Boxes.{IsBox}
use Rattle.fzn_model.specs.Booleans.{BaseBooleans}

abbrev pub relation : Rel → List (ℤ × Term) → ℤ → Base
relation rel ps r = base.Lin (record { rel = rel; terms = ps; r = r })

-- a box with the variables of a base
pub record IsOver (box : List (List ℤ)) (b : Base) : Type 0 where
  pub well_formed : IsBox box
  pub kept : BaseInLimits of_call (length box) b
  pub booleans : BaseBooleans box b
