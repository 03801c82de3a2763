-- The bounds of members that are taken, or not.
use Rattle.std.specs.Prelude.{List, ℤ, All, Contains}
use Rattle.fzn_model.specs.declared.term.Term.{Term}
use Rattle.fzn_model.specs.Bounds.{term_low, term_high}
use Rattle.dom_store.specs.Steps.{IsGone}

-- a value of a term isn't taken, or is dropped
unfoldable pub IsDropped : List ℤ → Term → ℤ → List (List ℤ) → Type 0
IsDropped taken t value box = Contains taken value → IsGone t value box

-- no bound of a term is taken
unfoldable pub BoundsAreFree : List ℤ → Term → List (List ℤ) → Type 0
BoundsAreFree taken t box = (Contains taken (term_low box t) → ⊥) × (Contains taken (term_high box t) → ⊥)

-- nor of a member
unfoldable pub AreFree : List ℤ → List Term → List (List ℤ) → Type 0
AreFree taken xs box = All (λ x. BoundsAreFree taken x box) xs
