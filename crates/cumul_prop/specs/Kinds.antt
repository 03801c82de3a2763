-- The constraints that this crate is for.
use Rattle.std.specs.Prelude.{⊤}
use Rattle.fzn_model.specs.declared.con.Con.{Con}
use Rattle.fzn_model.specs.declared.con.Con.TheVariants as con

-- tasks that share a capacity
abbrev pub IsCumulative : Con → Type 0
IsCumulative (con.CumulUsed tasks used b) = ⊤
IsCumulative c = ⊥
