-- What each step for a member of a set reaches.
use Rattle.std.specs.Prelude.{◌⊎◌, List, ℤ, ◌≤ℤ◌, ◌<ℤ◌}
use Rattle.fzn_model.specs.declared.member.Member.{Member}
use Rattle.fzn_model.specs.Sets.{IsIn}
use Rattle.fzn_model.specs.Bounds.{IsLookedAt, IsWide}
use Rattle.dom_store.specs.declared.extreme.Extreme.{Extreme}
use Rattle.dom_store.specs.Extremes.{bound_of}

-- a bound is in the set
unfoldable pub BoundIsIn : Extreme → Member → List (List ℤ) → Type 0
BoundIsIn e m box = IsIn m.set (bound_of e m.x box)

-- a value that propagation looks at is in the set
unfoldable pub ValueIsIn : Member → ℤ → List (List ℤ) → Type 0
ValueIsIn m v box = IsLookedAt box m.x v → IsIn m.set v

-- so is each from a low to below a high
unfoldable pub ValuesAreIn : Member → ℤ → ℤ → List (List ℤ) → Type 0
ValuesAreIn m low high box = (v : ℤ) → low ≤ℤ v → v <ℤ high → IsLookedAt box m.x v → IsIn m.set v

-- each value is in the set, unless the variable is wide
unfoldable pub EachIsIn : Member → List (List ℤ) → Type 0
EachIsIn m box = IsWide box m.x ⊎ ((v : ℤ) → IsLookedAt box m.x v → IsIn m.set v)
