-- What each step for a base that has to fail reaches.
use Rattle.std.specs.Prelude.{◌≡◌, ℕ, ◌<◌, ◌⊎◌, List, slice_index_or, ℤ, pos, ◌+ℤ◌, ◌-ℤ◌, ◌≤ℤ◌, ◌<ℤ◌, All}
use Rattle.fzn_model.specs.declared.term.Term.{Term}
use Rattle.fzn_model.specs.declared.base.Base.{Base}
use Rattle.fzn_model.specs.Sets.{IsWithin}
use Rattle.fzn_model.specs.Meaning.{val}
use Rattle.fzn_model.specs.Bounds.{IsAt, IsWide, IsLookedAt}
use Rattle.dom_store.specs.declared.extreme.Extreme.{Extreme}
use Rattle.dom_store.specs.declared.extreme.Extreme.TheVariants as extreme
use Rattle.dom_store.specs.Extremes.{bound_of}
use Rattle.dom_store.specs.Strength.{DeniedIsOwed}

-- ---- literals
-- all terms have the value
unfoldable pub AllHave : List Term → ℤ → List ℤ → Type 0
AllHave ts v θ = All (λ t. val t θ ≡ v) ts

-- the first terms have it alone
unfoldable pub FirstAre : List Term → ℤ → ℕ → List (List ℤ) → Type 0
FirstAre ts v n box = (k : ℕ) (d : Term) → k < n → IsAt box (slice_index_or ts k d) v

-- ---- a member
-- the value of the term is not in the run
unfoldable pub Misses : Term → ℤ × ℤ → List ℤ → Type 0
Misses x run θ = IsWithin run (val x θ) → ⊥

-- one of its bounds is not in the run
unfoldable pub BoundIsOff : Extreme → Term → ℤ × ℤ → List (List ℤ) → Type 0
BoundIsOff e x run box = IsWithin run (bound_of e x box) → ⊥

-- the number after a run, or before it: where a bound comes that leaves the run
abbrev pub number_beside : Extreme → ℤ × ℤ → ℤ
number_beside extreme.Least run = run.1 +ℤ pos 1
number_beside extreme.Greatest run = run.0 -ℤ pos 1

-- no number from a low to below a high is looked at
unfoldable pub AreOff : Term → ℤ → ℤ → List (List ℤ) → Type 0
AreOff x low end box = (v : ℤ) → low ≤ℤ v → v <ℤ end → IsLookedAt box x v → ⊥

-- no value that is looked at is in the run, unless the variable is wide
unfoldable pub EachIsOff : Term → ℤ × ℤ → List (List ℤ) → Type 0
EachIsOff x run box = IsWide box x ⊎ ((v : ℤ) → IsLookedAt box x v → IsWithin run v → ⊥)

-- none is in the run, or in the first runs
unfoldable pub RunIsOff : Term → ℤ × ℤ → List (List ℤ) → Type 0
RunIsOff x run box = (v : ℤ) → IsLookedAt box x v → IsWithin run v → ⊥

unfoldable pub FirstRunsAreOff : Term → List (ℤ × ℤ) → ℕ → List (List ℤ) → Type 0
FirstRunsAreOff x set n box = (k : ℕ) (d : ℤ × ℤ) → k < n → (v : ℤ) → IsLookedAt box x v → IsWithin (slice_index_or set k d) v → ⊥

-- ---- the base
-- what is owed where it has to fail
unfoldable pub IsDenied : Base → List (List ℤ) → Type 0
IsDenied b box = DeniedIsOwed box b
