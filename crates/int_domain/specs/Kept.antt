-- How a domain is kept: its bounds, its size, and a bitmap where its hull can have gaps and has at most 1,024 numbers.
use Rattle.std.specs.Prelude.{◌≡◌, ℕ, Bool, true, List, ℤ, pos, ◌+ℤ◌, ◌≤ℤ◌, ◌<ℤ◌, ◌⊎◌, length, filter, Option, Some, None}
use Rattle.int_domain.specs.declared.bitmap.Bitmap.{Bitmap}
use Rattle.int_domain.specs.declared.TheConstants.{LARGEST_VALUE, LARGEST_NARROW_HULL}
use Rattle.int_domain.specs.Values.{range, IsWithin}
use Rattle.int_domain.specs.Bits.{marks, Covers}

-- whether a number between the bounds is a value: without a bitmap each is
unfoldable pub keeps : Option Bitmap → ℤ → Bool
keeps None value = true
keeps (Some bitmap) value = marks bitmap value

-- the values from low to high that are kept, rising
unfoldable pub kept_between : Option Bitmap → ℤ → ℤ → List ℤ
kept_between bitmap low high = filter (keeps bitmap) (range low high)

-- a bitmap has a place for each number from low to high
unfoldable pub Reaches : Option Bitmap → ℤ → ℤ → Type 0
Reaches None low high = Unit {0}
Reaches (Some bitmap) low high = Covers bitmap low high

-- there is a bitmap exactly where the hull has 3 to 1,024 numbers, and it has a place for each of them
unfoldable pub FitsHull : Option Bitmap → ℤ → ℤ → Type 0
FitsHull None low high = (high ≤ℤ (low +ℤ pos 1)) ⊎ ((low +ℤ LARGEST_NARROW_HULL) ≤ℤ high)
FitsHull (Some bitmap) low high = ((low +ℤ pos 1) <ℤ high) × (high <ℤ (low +ℤ LARGEST_NARROW_HULL)) × Covers bitmap low high

-- bounds in order and within the limits, both of them values, with a bitmap where there has to be one
pub record IsSound (bitmap : Option Bitmap) (low high : ℤ) : Type 0 where
  pub ordered : low ≤ℤ high
  pub low_within : IsWithin LARGEST_VALUE low
  pub high_within : IsWithin LARGEST_VALUE high
  pub low_kept : keeps bitmap low ≡ true
  pub high_kept : keeps bitmap high ≡ true
  pub hull : FitsHull bitmap low high

-- the size is the number of values
pub record IsSized (bitmap : Option Bitmap) (low high : ℤ) (size : ℕ) : Type 0 where
  pub sound : IsSound bitmap low high
  pub counted : size ≡ length (kept_between bitmap low high)
