-- Numbers in order.
use Rattle.std.specs.Prelude.{ℕ, ◌<◌, ◌≤◌, List, length, filter, slice_index_or, ℤ, ◌≤ℤ◌, ◌<ℤ◌, int_le, ◌&&◌, AllPairs, Contains}

-- no number is greater than a later one
unfoldable pub Climbs : List ℤ → Type 0
Climbs xs = AllPairs (λ x y. x ≤ℤ y) xs

-- each number is less than each later one
unfoldable pub Rises : List ℤ → Type 0
Rises xs = AllPairs (λ x y. x <ℤ y) xs

-- those before a place are less than a number, all others aren't
pub record IsSplit (xs : List ℤ) (number : ℤ) (place : ℕ) : Type 0 where
  pub within : place ≤ length xs
  pub before : (k : ℕ) (d : ℤ) → k < place → slice_index_or xs k d <ℤ number
  pub after : (k : ℕ) (d : ℤ) → place ≤ k → k < length xs → number ≤ℤ slice_index_or xs k d

-- the same numbers, rising
pub record IsRising (given rising : List ℤ) : Type 0 where
  pub rises : Rises rising
  pub has : (z : ℤ) → Contains given z → Contains rising z
  pub from : (z : ℤ) → Contains rising z → Contains given z

-- how many of the numbers lie from low to high
unfoldable pub how_many_within : List ℤ → ℤ → ℤ → ℕ
how_many_within xs low high = length (filter (λ z. int_le low z && int_le z high) xs)

-- how many of the numbers are at most high
unfoldable pub how_many_to : ℤ → List ℤ → ℕ
how_many_to high xs = length (filter (λ z. int_le z high) xs)
