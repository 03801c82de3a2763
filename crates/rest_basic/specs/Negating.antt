-- Bases whose negation is within the limits.
use Rattle.std.specs.Prelude.{◌≤◌, ◌^◌, All, unsigned_abs, ⊤}
use Rattle.fzn_model.specs.declared.lin.Lin.{Lin}
use Rattle.fzn_model.specs.declared.base.Base.{Base}
use Rattle.fzn_model.specs.declared.base.Base.TheVariants as base
use Rattle.fzn_model.specs.Limits.{IsValue}
use Rattle.rest_basic.specs.declared.reduced.BaseForm.{BaseForm}
use Rattle.rest_basic.specs.declared.reduced.BaseForm.TheVariants as form

-- a linear relation that has an opposite within the limits
pub record IsNegatable (l : Lin) : Type 0 where
  pub factors : All (λ t. IsValue t.0) l.terms
  pub constant : unsigned_abs l.r ≤ 2 ^ 100

abbrev pub BaseIsNegatable : Base → Type 0
BaseIsNegatable (base.Lin l) = IsNegatable l
BaseIsNegatable (base.Clause c) = ⊤
BaseIsNegatable (base.Member m) = ⊤

abbrev pub FormIsNegatable : BaseForm → Type 0
FormIsNegatable form.Holds = ⊤
FormIsNegatable form.Fails = ⊤
FormIsNegatable (form.Is b) = BaseIsNegatable b
