-- Sets of numbers below a limit, as a mark for each.
use Rattle.std.specs.Prelude.{◌≡◌, ℕ, ◌+◌, ◌-◌, ◌<◌, ◌≤◌, Bool, true, false, not, List, length, slice_index, slice_index_or, slice_set}
use Rattle.std.specs.List.{count_by}

-- a number is in the set, or isn't; numbers beyond the limit aren't
abbrev pub IsMarked : List Bool → ℕ → Type 0
IsMarked marks v = slice_index_or marks v false ≡ true

abbrev pub IsUnmarked : List Bool → ℕ → Type 0
IsUnmarked marks v = slice_index_or marks v false ≡ false

-- the set is empty
abbrev pub IsClear : List Bool → Type 0
IsClear marks = (v : ℕ) → IsUnmarked marks v

-- a number is taken out of the set
pub record Takes (v : ℕ) (old new : List Bool) : Type 0 where
  pub inside : v < length old
  pub was : IsMarked old v
  pub is : new ≡ slice_set old v false

-- the number stands in one of the first places
abbrev pub IsPlaced : List ℕ → ℕ → ℕ → Type 0
IsPlaced places count v = (k : ℕ) × (k < count) × (slice_index places k ≡ v)

-- what the type keeps: there is a place for each number that may yet be marked
pub record IsMarkSet (marks : List Bool) (places : List ℕ) (count : ℕ) : Type 0 where
  pub few : length marks ≤ 4000000000
  pub room : length places ≡ length marks
  pub free : count + count_by not marks ≤ length marks
  pub inside : (k : ℕ) → k < count → slice_index places k < length marks
  pub placed : (v : ℕ) → IsMarked marks v → IsPlaced places count v

-- the number in the last of the first places is marked, and none behind it
pub record IsLatest (marks : List Bool) (places : List ℕ) (count left : ℕ) : Type 0 where
  pub most : left ≤ count
  pub none : (k : ℕ) → left ≤ k → k < count → IsUnmarked marks (slice_index places k)
  pub last : 0 < left → IsMarked marks (slice_index places (left - 1))

-- a mark that is left was there before, and isn't in the places
abbrev pub HasClear : List Bool → List Bool → List ℕ → Type 0
HasClear old new places = (v : ℕ) → IsMarked new v → IsMarked old v × ((k : ℕ) → k < length places → slice_index places k ≡ v → ⊥)

-- how many numbers are in the set
unfoldable pub marked_count : List Bool → ℕ
marked_count marks = count_by (λ m. m) marks
