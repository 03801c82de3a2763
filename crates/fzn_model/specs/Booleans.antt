-- Booleans over a box.
use Rattle.std.specs.Prelude.{List, ℤ, length, All, ⊤}
use Rattle.fzn_model.specs.declared.term.Term.{Term}
use Rattle.fzn_model.specs.declared.term.Term.TheVariants as term
use Rattle.fzn_model.specs.declared.base.Base.{Base}
use Rattle.fzn_model.specs.declared.base.Base.TheVariants as base
use Rattle.fzn_model.specs.declared.con.Con.{Con}
use Rattle.fzn_model.specs.declared.con.Con.TheVariants as con
use Rattle.fzn_model.specs.Limits.{IsBit, ConInLimits, of_call}
use Rattle.fzn_model.specs.Boxes.{domain_at}

-- 0, 1, or a variable that has no other values
abbrev pub IsBoolean : List (List ℤ) → Term → Type 0
IsBoolean box (term.Const z) = IsBit z
IsBoolean box (term.Var k) = All IsBit (domain_at box k)

abbrev pub BaseBooleans : List (List ℤ) → Base → Type 0
BaseBooleans box (base.Lin l) = ⊤
BaseBooleans box (base.Clause c) = All (IsBoolean box) c.pos × All (IsBoolean box) c.neg
BaseBooleans box (base.Member m) = ⊤

-- the literals of clauses and the term of a reified constraint are Booleans
abbrev pub ConBooleans : List (List ℤ) → Con → Type 0
ConBooleans box (con.Base b) = BaseBooleans box b
ConBooleans box (con.Reif b r f) = BaseBooleans box b × IsBoolean box r
ConBooleans box c = ⊤

-- a constraint over the variables of a box
pub record FitsBox (box : List (List ℤ)) (c : Con) : Type 0 where
  pub kept : ConInLimits of_call (length box) c
  pub booleans : ConBooleans box c
