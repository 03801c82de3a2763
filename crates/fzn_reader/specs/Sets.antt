-- Sets of numbers:
--   Number ".." Number | "{" [ Number { "," Number } ] "}"
use Rattle.std.specs.Prelude.{List, [], ◌∷◌, Result, Ok, if◌then◌else◌, codes, ℤ, pos, ◌+ℤ◌, int_le}
use Rattle.std.specs.Ordering.{int_cmp}
use Rattle.std.specs.BTreeSet.{insert_key}
use Rattle.std.specs.Int.{int_max}
use Rattle.fzn_lexer.specs.Spots.{Spot, first, after_first}
use Rattle.fzn_reader.specs.declared.begin.Begin.{Begin}
use Rattle.fzn_reader.specs.declared.begin.Begin.TheVariants as begin
use Rattle.fzn_reader.specs.declared.code.Code.TheVariants as code
use Rattle.fzn_reader.specs.declared.refused.Refused.{Refused}
use Rattle.fzn_reader.specs.Refusals.{◌>>=◌, refuse, value_or, mark_at, separated_at}
use Rattle.fzn_reader.specs.Numbers.{number_in}
use Rattle.fzn_reader.specs.Exprs.{begins}

-- what stands where the grammar has a Number
abbrev pub number_by : Begin → List Spot → Result (ℤ × List Spot) Refused
number_by begin.Number ts = value_or code.OutOfRange (number_in (first ts).text) ts
number_by begin.Real ts = refuse code.Float ts
number_by b ts = refuse code.Syntax ts

-- Number
unfoldable pub number_at : List Spot → Result (ℤ × List Spot) Refused
number_at ts = number_by (begins ts) ts

-- the set of the numbers from low to high, as runs; none where low is above high
abbrev pub range_set : ℤ → ℤ → List (ℤ × ℤ)
range_set low high = if int_le low high then (low, high) ∷ [] else []

-- Number ".." Number
unfoldable pub range_at : List Spot → Result (List (ℤ × ℤ) × List Spot) Refused
range_at ts = do
  low ← number_at ts
  dots ← mark_at (codes "..") low.1
  high ← number_at dots
  Ok (range_set low.0 high.0, high.1)

-- one number more of a set: the numbers stand in rising order, each once
unfoldable pub one_number : List ℤ → List Spot → Result (List ℤ × List Spot) Refused
one_number numbers ts = do
  z ← number_at ts
  Ok (insert_key int_cmp numbers z.0, z.1)

-- the runs of rising numbers, the first of which begins at low and has come to high
abbrev pub runs_from : ℤ → ℤ → List ℤ → List (ℤ × ℤ)
runs_from low high [] = (low, high) ∷ []
runs_from low high (z ∷ zs) = if int_le z (high +ℤ pos 1) then runs_from low (int_max high z) zs else (low, high) ∷ runs_from z z zs

-- the runs of rising numbers
abbrev pub runs_of : List ℤ → List (ℤ × ℤ)
runs_of [] = []
runs_of (z ∷ zs) = runs_from z z zs

-- "{" [ Number { "," Number } ] "}", from its "{" on
unfoldable pub braces_at : List Spot → Result (List (ℤ × ℤ) × List Spot) Refused
braces_at ts = do
  numbers ← separated_at (codes "}") one_number [] (after_first ts)
  close ← mark_at (codes "}") numbers.1
  Ok (runs_of numbers.0, close)
