-- What the answer of a propagator means, whatever its kind.
use Rattle.std.specs.Prelude.{◌+◌, ◌≤◌, List, ℤ}
use Rattle.fzn_model.specs.declared.con.Con.{Con}
use Rattle.fzn_model.specs.Meaning.{Holds}
use Rattle.dom_store.specs.declared.propagator.Ran.{Ran}
use Rattle.dom_store.specs.declared.propagator.Ran.TheVariants as ran
use Rattle.dom_store.specs.Stores.{box_size}
use Rattle.dom_store.specs.Narrowing.{HasNone}
use Rattle.dom_store.specs.Strength.{IsOwed}

-- the domains have at least 100,000 values fewer
abbrev pub FallsFar : List (List ℤ) → List (List ℤ) → Type 0
FallsFar old new = box_size new + 100000 ≤ box_size old

-- The box has the strength that is owed; or no assignment of the old box has the constraint; or many values have gone.
abbrev pub RanMeans : Con → List (List ℤ) → List (List ℤ) → Ran → Type 0
RanMeans c old new ran.Kept = IsOwed new c
RanMeans c old new ran.Empty = HasNone (Holds c) old
RanMeans c old new ran.EarlyStop = FallsFar old new
