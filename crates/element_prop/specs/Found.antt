-- What is found of a place.
use Rattle.std.specs.Prelude.{◌≡◌, ℕ, ◌+◌, List, ℤ, pos, ⊤}
use Rattle.fzn_model.specs.declared.term.Term.{Term}
use Rattle.fzn_model.specs.Bounds.{term_high, TermHas, IsLookedAt}
use Rattle.dom_store.specs.Strength.{HullsMeet}
use Rattle.element_prop.specs.declared.places.Found.{Found}
use Rattle.element_prop.specs.declared.places.Found.TheVariants as found
use Rattle.element_prop.specs.Places.{member}

-- the index can have it, and the hulls meet there; or the index isn't looked at there
unfoldable pub IsFound : List (List ℤ) → Term → List Term → Term → ℕ → Found → Type 0
IsFound box i xs c k found.Met = TermHas box i (pos (k + 1)) × HullsMeet box (member xs k) c
IsFound box i xs c k found.Gone = IsLookedAt box i (pos (k + 1)) → ⊥
IsFound box i xs c k found.Empty = ⊤

-- they meet in the last place that the index can have
unfoldable pub IsLastMet : List (List ℤ) → Term → List Term → Term → Type 0
IsLastMet box i xs c = (k : ℕ) → pos (k + 1) ≡ term_high box i → HullsMeet box (member xs k) c
