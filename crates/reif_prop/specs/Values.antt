-- The values that a term has, against a set.
use Rattle.std.specs.Prelude.{ℕ, ◌-◌, ◌<◌, List, length, slice_index_or, ℤ, pos, ◌≤ℤ◌, ◌<ℤ◌}
use Rattle.fzn_model.specs.declared.term.Term.{Term}
use Rattle.fzn_model.specs.Sets.{IsIn}
use Rattle.fzn_model.specs.Bounds.{TermHas}

-- the term can have a number from low to high
unfoldable pub HasWithin : List (List ℤ) → Term → ℤ → ℤ → Type 0
HasWithin box x low high = (v : ℤ) × (low ≤ℤ v) × (v ≤ℤ high) × TermHas box x v

-- it can have no number of a run
unfoldable pub IsFreeOf : List (List ℤ) → Term → ℤ × ℤ → Type 0
IsFreeOf box x run = HasWithin box x run.0 run.1 → ⊥

-- it can have none from low to below a number
unfoldable pub HasNoneBefore : List (List ℤ) → Term → ℤ → ℤ → Type 0
HasNoneBefore box x low end = (v : ℤ) → low ≤ℤ v → v <ℤ end → TermHas box x v → ⊥

-- each value of the term is in the set
unfoldable pub AllInside : List (List ℤ) → Term → List (ℤ × ℤ) → Type 0
AllInside box x set = (v : ℤ) → TermHas box x v → IsIn set v

-- none is
unfoldable pub AllOutside : List (List ℤ) → Term → List (ℤ × ℤ) → Type 0
AllOutside box x set = (v : ℤ) → TermHas box x v → IsIn set v → ⊥

-- ---- the gaps of a set: before its first run, between two runs, after its last
abbrev pub run_at : List (ℤ × ℤ) → ℕ → ℤ × ℤ
run_at set k = slice_index_or set k (pos 0, pos 0)

-- above the run before a place
abbrev pub IsPast : List (ℤ × ℤ) → ℕ → ℤ → Type 0
IsPast set k v = 0 < k → (run_at set (k - 1)).1 <ℤ v

-- below the run in a place
abbrev pub IsBefore : List (ℤ × ℤ) → ℕ → ℤ → Type 0
IsBefore set k v = k < length set → v <ℤ (run_at set k).0

-- the term can have a number in the gap before a place
unfoldable pub HasInGap : List (List ℤ) → Term → List (ℤ × ℤ) → ℕ → Type 0
HasInGap box x set k = (v : ℤ) × TermHas box x v × IsPast set k v × IsBefore set k v

-- it can have none in the first gaps
unfoldable pub GapsAreFree : List (List ℤ) → Term → List (ℤ × ℤ) → ℕ → Type 0
GapsAreFree box x set n = (k : ℕ) → k < n → HasInGap box x set k → ⊥
