-- The constraints that this crate is for.
use Rattle.std.specs.Prelude.{⊤}
use Rattle.fzn_model.specs.declared.con.Con.{Con}
use Rattle.fzn_model.specs.declared.con.Con.TheVariants as con

-- a base that holds exactly where a term has a value
abbrev pub IsReified : Con → Type 0
IsReified (con.Reif b r f) = ⊤
IsReified c = ⊥
