-- The constraints that this crate is for.
use Rattle.std.specs.Prelude.{⊤}
use Rattle.fzn_model.specs.declared.con.Con.{Con}
use Rattle.fzn_model.specs.declared.con.Con.TheVariants as con

-- an element of a list
abbrev pub IsElement : Con → Type 0
IsElement (con.Element i xs c) = ⊤
IsElement c = ⊥
