-- Intervals that as many members lie within as they have numbers that aren't taken.
use Rattle.std.specs.Prelude.{◌≡◌, ◌≤◌, ◌⊎◌, true, List, ℤ, ◌≤ℤ◌, All, Contains}
use Rattle.fzn_model.specs.declared.term.Term.{Term}
use Rattle.fzn_model.specs.Limits.{IsValue}
use Rattle.fzn_model.specs.Bounds.{term_low, term_high}
use Rattle.dom_store.specs.Strength.{is_inside, inside_count, free_count, IsOutside, IsHallInterval}
use Rattle.alldiff_prop.specs.Rising.{Climbs}
use Rattle.alldiff_prop.specs.Untaken.{BoundsAreFree}

-- at least as many members lie within low..high as it has numbers that aren't taken
pub record IsFull (box : List (List ℤ)) (xs : List Term) (taken : List ℤ) (low high : ℤ) : Type 0 where
  pub many : free_count taken low high ≤ inside_count box low high xs

-- each interval from low to one of the numbers, which are in order, is full
pub record AreFull (xs : List Term) (taken : List ℤ) (low : ℤ) (fulls : List ℤ) (box : List (List ℤ)) : Type 0 where
  pub climbs : Climbs fulls
  pub values : All IsValue fulls
  pub full : All (IsFull box xs taken low) fulls

-- the term lies within an interval, or both its bounds lie outside
unfoldable pub IsClear : List (List ℤ) → Term → ℤ → ℤ → Type 0
IsClear box t low high = (is_inside box low high t ≡ true) ⊎ (IsOutside low high (term_low box t) × IsOutside low high (term_high box t))

-- so for each interval from low to one of the numbers
unfoldable pub IsApart : ℤ → List ℤ → Term → List (List ℤ) → Type 0
IsApart low fulls t box = All (IsClear box t low) fulls

-- where no bound of a member is taken, nor low is: each interval from low on is as it is to be
unfoldable pub IsNarrowedFrom : List Term → List ℤ → ℤ → List (List ℤ) → Type 0
IsNarrowedFrom xs taken low box = All (λ x. BoundsAreFree taken x box) xs → (Contains taken low → ⊥) → (high : ℤ) → low ≤ℤ high → IsHallInterval box xs taken low high

-- so from the least value of each member
unfoldable pub AreNarrowed : List Term → List ℤ → List (List ℤ) → Type 0
AreNarrowed xs taken box = All (λ x. IsNarrowedFrom xs taken (term_low box x) box) xs
