-- The values of a domain as a list, rising: this project's own.
use Rattle.std.specs.Prelude.{◌≡◌, ◌≢◌, ℕ, zero, suc, Bool, true, ◌&&◌, List, [], ◌∷◌, ℤ, pos, ◌+ℤ◌, ◌-ℤ◌, neg_ℤ, ◌≤ℤ◌, ◌<ℤ◌, int_lt, int_le, All, AllPairs}
use Rattle.std.specs.Int.{int_gap}
use Rattle.std.specs.List.{flat_map, list_any}
use Rattle.int_domain.specs.declared.TheConstants.{LARGEST_VALUE, LARGEST_NARROW_HULL}

-- the whole numbers from low on, count of them, rising
unfoldable pub numbers_from : ℤ → ℕ → List ℤ
numbers_from low zero = []
numbers_from low (suc count) = low ∷ numbers_from (low +ℤ pos 1) count

-- all whole numbers from low to high, rising; none where low is above high
unfoldable pub range : ℤ → ℤ → List ℤ
range low high = numbers_from low (int_gap low (high +ℤ pos 1))

-- all values of the runs, in order; a run has both its ends
unfoldable pub values_of : List (ℤ × ℤ) → List ℤ
values_of runs = flat_map (λ (run : ℤ × ℤ). range run.0 run.1) runs

-- whether a run has the number
unfoldable pub is_in_runs : List (ℤ × ℤ) → ℤ → Bool
is_in_runs runs number = list_any (λ (run : ℤ × ℤ). int_le run.0 number && int_le number run.1) runs

-- the last of a list, or else the number before it
abbrev pub last_after : ℤ → List ℤ → ℤ
last_after before [] = before
last_after before (x ∷ xs) = last_after x xs

-- the first value, which is the least where the values rise
unfoldable pub low_of : List ℤ → ℤ
low_of [] = pos 0
low_of (x ∷ xs) = x

-- the last value, which is the greatest where the values rise
unfoldable pub high_of : List ℤ → ℤ
high_of xs = last_after (pos 0) xs

-- a number from -most to most
abbrev pub IsWithin : ℤ → ℤ → Type 0
IsWithin most number = (neg_ℤ most ≤ℤ number) × (number ≤ℤ most)

-- whether the hull, all numbers from the first value to the last, has more than 1,024 numbers
unfoldable pub is_wide : List ℤ → Bool
is_wide values = int_lt LARGEST_NARROW_HULL (high_of values -ℤ low_of values +ℤ pos 1)

-- what the values of each domain are: some, rising, within the limits, and without a gap where the hull is wide
pub record IsDomain (values : List ℤ) : Type 0 where
  pub some : values ≢ []
  pub rising : AllPairs (λ x y. x <ℤ y) values
  pub within : All (IsWithin LARGEST_VALUE) values
  pub no_gap : is_wide values ≡ true → values ≡ range (low_of values) (high_of values)

-- runs of values, each from its first to its last: rising, with at least one number between two of them that is in neither
pub record AreRuns (runs : List (ℤ × ℤ)) : Type 0 where
  pub ordered : All (λ (run : ℤ × ℤ). run.0 ≤ℤ run.1) runs
  pub apart : AllPairs (λ (run later : ℤ × ℤ). (run.1 +ℤ pos 1) <ℤ later.0) runs
  pub within : All (λ (run : ℤ × ℤ). IsWithin LARGEST_VALUE run.0 × IsWithin LARGEST_VALUE run.1) runs

-- each run lies in low..high
pub record LieBetween (runs : List (ℤ × ℤ)) (low high : ℤ) : Type 0 where
  pub each : All (λ (run : ℤ × ℤ). (low ≤ℤ run.0) × (run.0 ≤ℤ run.1) × (run.1 ≤ℤ high)) runs
