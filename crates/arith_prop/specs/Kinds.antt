-- The constraints that this crate is for.
use Rattle.std.specs.Prelude.{⊤}
use Rattle.fzn_model.specs.declared.con.Con.{Con}
use Rattle.fzn_model.specs.declared.con.Con.TheVariants as con

-- a product, a size, a division, or the greatest or least of a list
abbrev pub IsArithmetic : Con → Type 0
IsArithmetic (con.Times a b c) = ⊤
IsArithmetic (con.Abs a b) = ⊤
IsArithmetic (con.Div a b c) = ⊤
IsArithmetic (con.Mod a b c) = ⊤
IsArithmetic (con.Greatest m xs) = ⊤
IsArithmetic (con.Least m xs) = ⊤
IsArithmetic c = ⊥
