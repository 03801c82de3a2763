-- What it takes to compare a constraint.
use Rattle.std.specs.Prelude.{◌<◌, length, ⊤}
use Rattle.fzn_model.specs.declared.term.Term.{Term}
use Rattle.fzn_model.specs.declared.term.Term.TheVariants as term
use Rattle.fzn_model.specs.declared.con.Con.{Con}
use Rattle.fzn_model.specs.declared.con.Con.TheVariants as con
use Rattle.fzn_model.specs.Limits.{IsValue, UsedInLimits, of_call}

abbrev pub CapacityKept : Term → Type 0
CapacityKept (term.Const z) = IsValue z
CapacityKept (term.Var k) = ⊤

-- sums of used amounts fit 128 bits, and rows aren't empty
abbrev pub CanCompare : Con → Type 0
CanCompare (con.CumulUsed tasks used b) = UsedInLimits of_call used × CapacityKept b
CanCompare (con.Table xs rows) = 0 < length xs
CanCompare c = ⊤
