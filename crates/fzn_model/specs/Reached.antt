-- The first run of a set that ends at a value or above it.
use Rattle.std.specs.Prelude.{ℕ, ◌<◌, ◌≤◌, List, length, slice_index_or, ℤ, ◌≤ℤ◌, ◌<ℤ◌}

-- the runs before the place end below the value, and no others
pub record IsFirstReaching (runs : List (ℤ × ℤ)) (value : ℤ) (place : ℕ) : Type 0 where
  pub bound : place ≤ length runs
  pub before : (k : ℕ) (d : ℤ × ℤ) → k < place → (slice_index_or runs k d).1 <ℤ value
  pub after : (k : ℕ) (d : ℤ × ℤ) → place ≤ k → k < length runs → value ≤ℤ (slice_index_or runs k d).1
