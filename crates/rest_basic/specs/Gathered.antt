-- Runs in the making.
use Rattle.std.specs.Prelude.{◌≡◌, ◌↔◌, ◌⊎◌, List, map, filter, ℤ, ◌≤ℤ◌, ◌<ℤ◌, Bool, ◌&&◌, int_le, Contains}
use Rattle.std.specs.Int.{int_min, int_max}
use Rattle.fzn_model.specs.Sets.{IsIn, AreRuns}

-- the runs of those values of a list that a set has and that lie below a number
pub record Gathered (values : List ℤ) (set : List (ℤ × ℤ)) (before : ℤ) (runs : List (ℤ × ℤ)) : Type 0 where
  pub are : AreRuns runs
  pub has : (z : ℤ) → IsIn runs z ↔ (Contains values z × IsIn set z × (z <ℤ before))

-- a list has each number from one to another
pub record HasAll (values : List ℤ) (low high : ℤ) : Type 0 where
  pub has : (z : ℤ) → low ≤ℤ z → z ≤ℤ high → Contains values z

-- one run of a set has all numbers from one to another
pub record HasRunOver (set : List (ℤ × ℤ)) (low high : ℤ) : Type 0 where
  pub has : (z : ℤ) → low ≤ℤ z → z ≤ℤ high → IsIn set z

-- runs that lie below a number
pub record AreBelow (number : ℤ) (runs : List (ℤ × ℤ)) : Type 0 where
  pub are : AreRuns runs
  pub below : (z : ℤ) → IsIn runs z → z <ℤ number

-- the same set and one number more
pub record IsAdded (number : ℤ) (runs after : List (ℤ × ℤ)) : Type 0 where
  pub are : AreRuns after
  pub has : (z : ℤ) → IsIn after z ↔ (IsIn runs z ⊎ (z ≡ number))

-- the runs of a set that meet those from a number to another, cut off there
abbrev pub meets : ℤ → ℤ → ℤ × ℤ → Bool
meets low high run = int_le run.0 high && int_le low run.1

abbrev pub cut : ℤ → ℤ → ℤ × ℤ → ℤ × ℤ
cut low high run = (int_max run.0 low, int_min run.1 high)

unfoldable pub clipped : ℤ → ℤ → List (ℤ × ℤ) → List (ℤ × ℤ)
clipped low high set = map (cut low high) (filter (meets low high) set)
