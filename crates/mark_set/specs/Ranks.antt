-- Sets of which each number has a rank, cheap or dear, as two sets.
use Rattle.std.specs.Prelude.{◌≡◌, ℕ, ◌≤◌, ◌⊎◌, Bool, ◌||◌, List, [], ◌∷◌, length}
use Rattle.mark_set.specs.Marks.{IsMarked, IsUnmarked, IsClear, Takes}

-- the marks of two sets together: a number has one where it is in either
unfoldable pub joined : List Bool → List Bool → List Bool
joined [] late = []
joined (c ∷ cheap) [] = []
joined (c ∷ cheap) (l ∷ late) = (c || l) ∷ joined cheap late

-- what the type keeps: both sets are below the limit, and a number is in none but that of its rank
pub record IsRankedSet (cheap late dear : List Bool) : Type 0 where
  pub few : length dear ≤ 4000000000
  pub cheap_below : length cheap ≡ length dear
  pub late_below : length late ≡ length dear
  pub is_cheap : (v : ℕ) → IsMarked cheap v → IsUnmarked dear v
  pub is_dear : (v : ℕ) → IsMarked late v → IsMarked dear v

-- a number is taken out of the cheap ones, and out of the dear ones only where there is no cheap one
abbrev pub TakesCheapFirst : ℕ → List Bool → List Bool → List Bool → List Bool → Type 0
TakesCheapFirst v cheap late cheap_then late_then = (Takes v cheap cheap_then × (late_then ≡ late)) ⊎ (IsClear cheap × (cheap_then ≡ cheap) × Takes v late late_then)
