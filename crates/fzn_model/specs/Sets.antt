-- Finite sets of whole numbers as runs (MiniZinc Handbook, FlatZinc: set literals).
use Rattle.std.specs.Prelude.{◌-◌, List, [], ◌∷◌, length, slice_index_or, ℤ, pos, ◌+ℤ◌, ◌≤ℤ◌, ◌<ℤ◌, Any, ⊤}

-- the numbers from the low of a run to its high
unfoldable pub IsWithin : ℤ × ℤ → ℤ → Type 0
IsWithin run z = (run.0 ≤ℤ z) × (z ≤ℤ run.1)

-- the set has the number
unfoldable pub IsIn : List (ℤ × ℤ) → ℤ → Type 0
IsIn set z = Any (λ run. IsWithin run z) set

-- each run has its low at most its high, and begins at least two above the number before
abbrev pub AreAbove : ℤ → List (ℤ × ℤ) → Type 0
AreAbove before [] = ⊤
AreAbove before (run ∷ runs) = ((before +ℤ pos 1) <ℤ run.0) × (run.0 ≤ℤ run.1) × AreAbove run.1 runs

-- the runs rise, each low at most its high, with a gap between two
abbrev pub AreRuns : List (ℤ × ℤ) → Type 0
AreRuns [] = ⊤
AreRuns (run ∷ runs) = (run.0 ≤ℤ run.1) × AreAbove run.1 runs

-- the least and the greatest number of a set that isn't empty
abbrev pub low_of : List (ℤ × ℤ) → ℤ
low_of set = (slice_index_or set 0 (pos 0, pos 0)).0

abbrev pub high_of : List (ℤ × ℤ) → ℤ
high_of set = (slice_index_or set (length set - 1) (pos 0, pos 0)).1
