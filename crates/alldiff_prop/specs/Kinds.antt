-- The constraints that this crate is for.
use Rattle.std.specs.Prelude.{⊤}
use Rattle.fzn_model.specs.declared.con.Con.{Con}
use Rattle.fzn_model.specs.declared.con.Con.TheVariants as con

-- values that differ in pairs and from taken numbers
abbrev pub IsAllDifferent : Con → Type 0
IsAllDifferent (con.AllDiffExcept xs taken) = ⊤
IsAllDifferent c = ⊥
