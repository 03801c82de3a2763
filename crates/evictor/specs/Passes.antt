-- The words of a cache, as a pass knows them. A word is 0 for an empty place, else the key of an entry on the shelf and 1
-- more. It is this project's own.
use Rattle.std.specs.Prelude.{◌≡◌, ℕ, ◌%◌, ◌≤◌, List, slice_index}

-- what a cache was made with: how many words it has
pub record CacheFacts : Type 0 where
  pub ways : ℕ

-- none, or a multiple of 8
abbrev pub IsWays : ℕ → Type 0
IsWays n = (n % 8 ≡ 0) × (n ≤ 1048576)

-- What a pass knows: its cache, and the words as they stand. So far a cache has one pass, which no other changes.
pub record PassWords : Type 0 where
  pub cache : CacheFacts
  pub words : List ℕ

abbrev pub word_at : List ℕ → ℕ → ℕ
word_at words place = slice_index words place
