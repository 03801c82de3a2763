-- The constraints that this crate is for.
use Rattle.std.specs.Prelude.{List, ℤ, ⊤}
use Rattle.fzn_model.specs.declared.term.Term.{Term}
use Rattle.fzn_model.specs.declared.lin.Rel.{Rel}
use Rattle.fzn_model.specs.declared.base.Base.TheVariants as base
use Rattle.fzn_model.specs.declared.con.Con.{Con}
use Rattle.fzn_model.specs.declared.con.Con.TheVariants as con

-- a linear relation
abbrev pub IsLinear : Con → Type 0
IsLinear (con.Base (base.Lin l)) = ⊤
IsLinear c = ⊥

-- the constraint
abbrev pub relation : Rel → List (ℤ × Term) → ℤ → Con
relation rel ts r = con.Base (base.Lin (record { rel = rel; terms = ts; r = r }))
