-- The numbers up to which there are exactly as many greatest values of members as numbers that aren't taken.
use Rattle.std.specs.Prelude.{◌≡◌, ℕ, ◌+◌, ◌<◌, ◌≤◌, List, length, slice_index_or, ℤ, pos, ◌≤ℤ◌, All, Contains}
use Rattle.fzn_model.specs.Limits.{IsValue}
use Rattle.dom_store.specs.Strength.{free_count}
use Rattle.alldiff_prop.specs.Rising.{Climbs}

-- values that are at least low
pub record AreBetween (low : ℤ) (highs : List ℤ) : Type 0 where
  pub from : All (λ high. low ≤ℤ high) highs
  pub values : All IsValue highs

-- up to that in some place, places are more than numbers that aren't taken
unfoldable pub HasOverfull : List ℤ → ℤ → List ℤ → Type 0
HasOverfull taken low highs = (k : ℕ) × (k < length highs) × (free_count taken low (slice_index_or highs k (pos 0)) < k + 1)

-- one of those in the first n places, up to which places are at least as many as numbers that aren't taken
pub record IsFilledBefore (taken : List ℤ) (low : ℤ) (highs : List ℤ) (n : ℕ) (high : ℤ) : Type 0 where
  pub place : ℕ
  pub before : place < n
  pub is : slice_index_or highs place (pos 0) ≡ high
  pub filled : free_count taken low high ≤ place + 1

-- The full ones of the first n places, none of which is overfull.
pub record AreFullsTo (taken : List ℤ) (low : ℤ) (highs : List ℤ) (fulls : List ℤ) (n : ℕ) : Type 0 where
  pub few : (k : ℕ) → k < n → k + 1 ≤ free_count taken low (slice_index_or highs k (pos 0))
  pub listed : (k : ℕ) → k < n → k + 1 ≡ free_count taken low (slice_index_or highs k (pos 0)) → Contains fulls (slice_index_or highs k (pos 0))
  pub filled : All (IsFilledBefore taken low highs n) fulls
  pub climbs : Climbs fulls
  pub values : All IsValue fulls
