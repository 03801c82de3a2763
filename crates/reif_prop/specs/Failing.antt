-- A base that has to fail.
use Rattle.std.specs.Prelude.{List, ℤ}
use Rattle.fzn_model.specs.declared.base.Base.{Base}
use Rattle.fzn_model.specs.Meaning.{HoldsBase}

-- the base does not hold
unfoldable pub Fails : Base → List ℤ → Type 0
Fails b θ = HoldsBase b θ → ⊥
