-- Numbers of a set next to a number.
use Rattle.std.specs.Prelude.{ℕ, ◌<◌, ◌≤◌, List, length, slice_index_or, ℤ, ◌≤ℤ◌, ◌<ℤ◌}
use Rattle.fzn_model.specs.Sets.{IsIn}
use Rattle.dom_store.specs.declared.extreme.Extreme.{Extreme}
use Rattle.dom_store.specs.Extremes.{Bounds}

-- the number of the set next to a bound: the least that is at least it, or the greatest that is at most
pub record IsNear (e : Extreme) (set : List (ℤ × ℤ)) (bound number : ℤ) : Type 0 where
  pub has : IsIn set number
  pub bounded : Bounds e bound number
  pub nearest : (z : ℤ) → IsIn set z → Bounds e bound z → Bounds e number z

-- no number of the set is at least the bound, or at most
unfoldable pub NoneNear : Extreme → List (ℤ × ℤ) → ℤ → Type 0
NoneNear e set bound = (z : ℤ) → IsIn set z → Bounds e bound z → ⊥

-- the first runs begin at most at the number, and all others do not
pub record BeginBy (set : List (ℤ × ℤ)) (number : ℤ) (count : ℕ) : Type 0 where
  pub bound : count ≤ length set
  pub below : (k : ℕ) (d : ℤ × ℤ) → k < count → (slice_index_or set k d).0 ≤ℤ number
  pub above : (k : ℕ) (d : ℤ × ℤ) → count ≤ k → k < length set → number <ℤ (slice_index_or set k d).0
