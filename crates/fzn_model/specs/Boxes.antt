-- Boxes: a set of values for each variable, as the rising list of its values.
use Rattle.std.specs.Prelude.{◌≡◌, ◌≢◌, ℕ, ◌<◌, List, [], ◌∷◌, length, slice_index_or, ℤ, pos, ◌-ℤ◌, ◌<ℤ◌, ◌≤ℤ◌, All, AllPairs, Contains}
use Rattle.fzn_model.specs.Limits.{IsValue}

-- the last of a list, or else the number before it
abbrev pub last_after : ℤ → List ℤ → ℤ
last_after before [] = before
last_after before (x ∷ xs) = last_after x xs

-- the first value, which is the least where the values rise
unfoldable pub low_value : List ℤ → ℤ
low_value [] = pos 0
low_value (x ∷ xs) = x

-- the last value, which is the greatest where the values rise
unfoldable pub high_value : List ℤ → ℤ
high_value values = last_after (pos 0) values

-- A set of values of a box: some, rising, within the values; where its hull, all numbers from the first value to the
-- last, has more than 1,024 numbers, all of the hull.
pub record IsDomain (values : List ℤ) : Type 0 where
  pub some : values ≢ []
  pub rising : AllPairs (λ x y. x <ℤ y) values
  pub within : All IsValue values
  pub whole : pos 1024 ≤ℤ (high_value values -ℤ low_value values) → (z : ℤ) → low_value values ≤ℤ z → z ≤ℤ high_value values → Contains values z

abbrev pub IsBox : List (List ℤ) → Type 0
IsBox box = All IsDomain box

-- the set of a variable
abbrev pub domain_at : List (List ℤ) → ℕ → List ℤ
domain_at box var = slice_index_or box var []

-- an assignment within the box: as many values as variables, each in its set
pub record InBox (box : List (List ℤ)) (θ : List ℤ) : Type 0 where
  pub count : length θ ≡ length box
  pub each : (k : ℕ) → k < length box → Contains (domain_at box k) (slice_index_or θ k (pos 0))
