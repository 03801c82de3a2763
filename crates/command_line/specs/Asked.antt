-- What the words of a command line ask for.
use Rattle.std.specs.Prelude.{ℕ, Bool, List, Option}
use Rattle.incumbent_board.specs.declared.options.Options.{Options}

-- How to search; whether to write what the search took; the number of a model to make, as it was given and what it is; and
-- the name of a file to read.
pub record Asked : Type 0 where
  pub options : Options
  pub stats : Bool
  pub make : Option (List ℕ × ℕ)
  pub file : Option (List ℕ)
