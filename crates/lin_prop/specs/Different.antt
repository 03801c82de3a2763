-- What is reached for a sum that has to differ from a number.
use Rattle.std.specs.Prelude.{◌≡◌, ◌≢◌, ℕ, ◌<◌, ◌≤◌, List, length, drop, slice_index_or, ℤ, ◌*ℤ◌, ◌+ℤ◌}
use Rattle.fzn_model.specs.declared.term.Term.{Term}
use Rattle.fzn_model.specs.Meaning.{lin_sum}
use Rattle.fzn_model.specs.Limits.{IsValue}
use Rattle.fzn_model.specs.Bounds.{IsFixed, sum_low, others_low}
use Rattle.dom_store.specs.Strength.{SumIsFixed, OthersFixed, IsAvoided}
use Rattle.lin_prop.specs.declared.open_terms.Stretch.{Stretch}

-- the sum differs from the number
unfoldable pub Differs : List (ℤ × Term) → ℤ → List ℤ → Type 0
Differs ts r θ = lin_sum ts θ ≢ r

-- no value makes the sum equal to the number; where no term is open, it isn't
pub record IsApart (ts : List (ℤ × Term)) (r : ℤ) (box : List (List ℤ)) : Type 0 where
  pub avoided : IsAvoided box ts r
  pub fixed : SumIsFixed box ts → sum_low box ts ≢ r

-- the term in a place is open
unfoldable pub IsOpenAt : List (List ℤ) → List (ℤ × Term) → ℕ → Type 0
IsOpenAt box ts i = (d : ℤ × Term) → i < length ts → IsFixed box (slice_index_or ts i d).1 → ⊥

-- the term in a place is open, and no other
abbrev pub IsOneOpen : List (List ℤ) → List (ℤ × Term) → ℕ → Type 0
IsOneOpen box ts i = (i < length ts) × IsOpenAt box ts i × OthersFixed box ts i

-- the terms in two places are open
abbrev pub AreTwoOpen : List (List ℤ) → List (ℤ × Term) → Type 0
AreTwoOpen box ts = (i j : ℕ) × (i < j) × (j < length ts) × IsOpenAt box ts i × IsOpenAt box ts j

-- the terms in the places from one to before another are fixed
unfoldable pub FixedBetween : List (List ℤ) → List (ℤ × Term) → ℕ → ℕ → Type 0
FixedBetween box ts from to = (j : ℕ) (d : ℤ × Term) → from ≤ j → j < to → IsFixed box (slice_index_or ts j d).1

-- the terms from a place up to an open one, or to the end, are fixed, and add up to this
pub record IsStretch (box : List (List ℤ)) (ts : List (ℤ × Term)) (from : ℕ) (s : Stretch) : Type 0 where
  pub reach : (from ≤ s.end) × (s.end ≤ length ts)
  pub fixed : FixedBetween box ts from s.end
  pub opened : s.end < length ts → IsOpenAt box ts s.end
  pub total : (s.sum +ℤ sum_low box (drop s.end ts)) ≡ sum_low box (drop from ts)

-- no value of the language gives this product with a factor
unfoldable pub Excludes : ℤ → ℤ → Type 0
Excludes factor product = (v : ℤ) → IsValue v → (factor *ℤ v) ≢ product

-- this number and the least of all other terms make the number
unfoldable pub LeavesFor : List (List ℤ) → List (ℤ × Term) → ℕ → ℤ → ℤ → Type 0
LeavesFor box ts at r left = (d : ℤ × Term) → (left +ℤ others_low box ts (slice_index_or ts at d)) ≡ r
