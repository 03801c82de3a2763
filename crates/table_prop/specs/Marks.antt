-- Marks for the numbers from one up that stand in a list.
use Rattle.std.specs.Prelude.{◌≡◌, ℕ, ◌<◌, ◌≤◌, Bool, true, false, List, length, slice_index_or, ℤ, pos, ◌+ℤ◌, Contains}

-- none of the first n places has a mark
unfoldable pub AreUnmarked : ℕ → List Bool → Type 0
AreUnmarked n marks = (k : ℕ) → k < n → (d : Bool) → slice_index_or marks k d ≡ false

-- those of the first n have one whose numbers stand in the list
pub record AreMarks (vs : List ℤ) (low : ℤ) (n : ℕ) (marks : List Bool) : Type 0 where
  pub room : n ≤ length marks
  pub listed : (k : ℕ) → k < n → (d : Bool) → slice_index_or marks k d ≡ true → Contains vs (low +ℤ pos k)
  pub marked : (k : ℕ) → k < n → (d : Bool) → Contains vs (low +ℤ pos k) → slice_index_or marks k d ≡ true
