-- A box with the members of a constraint.
use Rattle.std.specs.Prelude.{◌≤◌, List, length, ℤ, All}
use Rattle.fzn_model.specs.declared.term.Term.{Term}
use Rattle.fzn_model.specs.Limits.{TermIn}
use Rattle.fzn_model.specs.Boxes.{IsBox}

-- a box with the variables of the members
pub record IsReady (box : List (List ℤ)) (xs : List Term) : Type 0 where
  pub well_formed : IsBox box
  pub count : length xs ≤ 2000000
  pub terms : All (TermIn (length box)) xs
