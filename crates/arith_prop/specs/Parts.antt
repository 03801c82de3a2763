-- Constraints from the parts that a propagator keeps.
use Rattle.std.specs.Prelude.{List}
use Rattle.fzn_model.specs.declared.term.Term.{Term}
use Rattle.fzn_model.specs.declared.con.Con.{Con}
use Rattle.fzn_model.specs.declared.con.Con.TheVariants as con
use Rattle.dom_store.specs.declared.extreme.Extreme.{Extreme}
use Rattle.dom_store.specs.declared.extreme.Extreme.TheVariants as extreme
use Rattle.arith_prop.specs.declared.division.Part.{Part}
use Rattle.arith_prop.specs.declared.division.Part.TheVariants as part
use Rattle.arith_prop.specs.declared.arith_prop.Kind.{Kind}
use Rattle.arith_prop.specs.declared.arith_prop.Kind.TheVariants as kind

-- a term is the greatest or the least of a list
abbrev pub extreme_con : Extreme → Term → List Term → Con
extreme_con extreme.Greatest m xs = con.Greatest m xs
extreme_con extreme.Least m xs = con.Least m xs

-- a term is the quotient of two others, or what their division leaves
abbrev pub division_con : Part → Term → Term → Term → Con
division_con part.Quotient a b c = con.Div a b c
division_con part.Remainder a b c = con.Mod a b c

abbrev pub con_of : Kind → Con
con_of (kind.Times a b c) = con.Times a b c
con_of (kind.Abs a b) = con.Abs a b
con_of (kind.Division p a b c) = division_con p a b c
con_of (kind.Extreme e m xs) = extreme_con e m xs
