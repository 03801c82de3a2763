-- Words of 64 bits as a row of places, the lowest bit of the first word first: this project's own.
use Rattle.std.specs.Prelude.{ℕ, ◌-◌, ◌/◌, ◌%◌, ◌==◌, Bool, List, ℤ, ◌+ℤ◌, ◌≤ℤ◌, ◌<ℤ◌, slice_index}
use Rattle.std.specs.List.{range_with_len, sum_by}
use Rattle.std.specs.Int.{bit_at, int_gap}
use Rattle.int_domain.specs.declared.bitmap.Bitmap.{Bitmap}
use Rattle.int_domain.specs.declared.TheConstants.{LARGEST_NARROW_HULL}

-- the bit at a place, 0 or 1
unfoldable pub bit_of : List ℕ → ℕ → ℕ
bit_of words place = bit_at (slice_index words (place / 64)) (place % 64)

-- how many of the places from..end have the bit 1
unfoldable pub set_between : List ℕ → ℕ → ℕ → ℕ
set_between words from end = sum_by (bit_of words) (range_with_len from (end - from))

-- whether the bit of a value is 1; the first place is that of the base
unfoldable pub marks : Bitmap → ℤ → Bool
marks bitmap value = bit_of bitmap.words (int_gap bitmap.base value) == 1

-- the bitmap has a place for each number from low to high
pub record Covers (bitmap : Bitmap) (low high : ℤ) : Type 0 where
  pub from : bitmap.base ≤ℤ low
  pub to : high <ℤ (bitmap.base +ℤ LARGEST_NARROW_HULL)
