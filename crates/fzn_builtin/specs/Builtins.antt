-- What the table of names says of a name, by its number. The number of a name is that of a row (`ArgumentsAreRead`,
-- `specs/Reading.antt`), so what stands here for a row that isn't there is never read.
use Rattle.std.specs.Prelude.{ℕ, ◌≤◌, List, [], Option, map, position, length, slice_index, slice_index_or}
use Rattle.std.specs.Str.{bytes_eq}
use Rattle.fzn_builtin.specs.declared.needs.Need.{Need}
use Rattle.fzn_builtin.specs.declared.shape.Shape.{Shape}
use Rattle.fzn_builtin.specs.declared.shape.Shape.TheVariants as shape
use Rattle.fzn_builtin.specs.declared.table.TheConstants.{TABLE}

-- the number of a name: the place of its first row, counted from 0; none where it is in no row
abbrev pub numbered : List ℕ → Option ℕ
numbered name = position (λ row. bytes_eq row.0.now name) TABLE

-- what its arguments have to be, place by place
unfoldable pub needs_of : ℕ → List Need
needs_of builtin = slice_index_or (map (λ row. row.1.now) TABLE) builtin []

-- its fewest arguments
unfoldable pub least_of : ℕ → ℕ
least_of builtin = slice_index (map (λ row. row.2) TABLE) builtin

-- how its constraint is made
unfoldable pub shape_of : ℕ → Shape
shape_of builtin = slice_index_or (map (λ row. row.3) TABLE) builtin shape.Xor

-- so many arguments are a whole list: no fewer than the fewest, no more than there are places
abbrev pub IsArgumentCount : ℕ → ℕ → Type 0
IsArgumentCount builtin count = (least_of builtin ≤ count) × (count ≤ length (needs_of builtin))
