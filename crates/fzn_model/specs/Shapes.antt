-- How many elements an array of given index ranges has (MiniZinc Handbook, arrays).
use Rattle.std.specs.Prelude.{ℕ, ◌*◌, List, [], ◌∷◌, ℤ, pos, negsuc, ◌+ℤ◌, ◌-ℤ◌}

-- the number, or 0 where it is negative
abbrev pub natural : ℤ → ℕ
natural (pos n) = n
natural (negsuc n) = 0

-- how many numbers there are from low to high, none where low is above high
abbrev pub range_size : ℤ × ℤ → ℕ
range_size range = natural ((range.1 -ℤ range.0) +ℤ pos 1)

abbrev pub array_size : List (ℤ × ℤ) → ℕ
array_size [] = 1
array_size (d ∷ ds) = range_size d * array_size ds
