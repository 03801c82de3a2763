-- The constraints that this crate is for.
use Rattle.std.specs.Prelude.{⊤}
use Rattle.fzn_model.specs.declared.base.Base.TheVariants as base
use Rattle.fzn_model.specs.declared.con.Con.{Con}
use Rattle.fzn_model.specs.declared.con.Con.TheVariants as con

-- a clause, or a member of a set
abbrev pub IsClausal : Con → Type 0
IsClausal (con.Base (base.Clause c)) = ⊤
IsClausal (con.Base (base.Member m)) = ⊤
IsClausal c = ⊥
