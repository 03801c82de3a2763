-- The constraints that this crate is for.
use Rattle.std.specs.Prelude.{⊤}
use Rattle.fzn_model.specs.declared.con.Con.{Con}
use Rattle.fzn_model.specs.declared.con.Con.TheVariants as con

-- a table
abbrev pub IsTable : Con → Type 0
IsTable (con.Table xs rows) = ⊤
IsTable c = ⊥
