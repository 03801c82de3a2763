-- What tests of parts of constraints find: words that the definitions of weaker constraints come down to.
use Rattle.std.specs.Prelude.{ℕ, ◌<◌, ◌≤◌, List, length, slice_index_or, ℤ, ◌-ℤ◌, ◌≤ℤ◌, ◌<ℤ◌, All, AllPairs, Bool, IsTrue}
use Rattle.fzn_model.specs.declared.cumulative.Used.{Used}
use Rattle.fzn_model.specs.Sets.{IsIn, IsWithin}
use Rattle.fzn_model.specs.Meaning.{amount_at}

-- each number of the run is in the set
unfoldable pub RunWithin : List (ℤ × ℤ) → ℤ × ℤ → Type 0
RunWithin other run = (z : ℤ) → IsWithin run z → IsIn other z

-- and of each run
unfoldable pub AreRunsWithin : List (ℤ × ℤ) → List (ℤ × ℤ) → Type 0
AreRunsWithin other runs = All (RunWithin other) runs

-- the low of a run is at most its high
unfoldable pub IsRun : ℤ × ℤ → Type 0
IsRun run = run.0 ≤ℤ run.1

-- the first run has both ends of the second
unfoldable pub Encloses : ℤ × ℤ → ℤ × ℤ → Type 0
Encloses outer run = (outer.0 ≤ℤ run.0) × (run.1 ≤ℤ outer.1)

-- used amounts that rise and don't overlap
pub record AreApart (used : List Used) : Type 0 where
  pub ends : All (λ u. u.from ≤ℤ u.to) used
  pub gaps : AllPairs (λ u v. u.to ≤ℤ v.from) used

-- where the flag is set they are
unfoldable pub TellsApart : Bool → List Used → Type 0
TellsApart apart used = IsTrue apart → AreApart used

-- the amounts before the place have ended by the moment, and no others
pub record IsFirstAfter (used : List Used) (t : ℤ) (place : ℕ) : Type 0 where
  pub bound : place ≤ length used
  pub before : (k : ℕ) (d : Used) → k < place → (slice_index_or used k d).to ≤ℤ t
  pub after : (k : ℕ) (d : Used) → place ≤ k → k < length used → t <ℤ (slice_index_or used k d).to

-- what is used of the first amounts over what is used of the second
abbrev pub excess_at : List Used → List Used → ℤ → ℤ
excess_at used other t = amount_at used t -ℤ amount_at other t

unfoldable pub StaysBelow : List Used → List Used → ℤ → Type 0
StaysBelow used other room = (t : ℤ) → excess_at used other t ≤ℤ room

-- where the first amounts begin, and where the second end
unfoldable pub BeginsBelow : List Used → List Used → ℤ → Type 0
BeginsBelow used other room = All (λ u. excess_at used other u.from ≤ℤ room) used

unfoldable pub EndsBelow : List Used → List Used → ℤ → Type 0
EndsBelow used other room = All (λ u. excess_at used other u.to ≤ℤ room) other
