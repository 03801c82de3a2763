-- Annotations that make outputs:
--   output_var                             on a variable
--   output_array([ lo .. hi, .. ])         on an array of variables, with one to six index ranges
use Rattle.std.specs.Prelude.{ℕ, List, [], ◌∷◌, ◌++◌, Bool, Option, Some, None, Result, Ok, Err, if◌then◌else◌, ◌&&◌, ◌||◌, not, codes, length, nat_lt, nat_le, nat_eq, ℤ}
use Rattle.std.specs.Str.{bytes_eq}
use Rattle.fzn_lexer.specs.Spots.{Spot, first, after_first}
use Rattle.fzn_model.specs.Shapes.{array_size}
use Rattle.fzn_reader.specs.declared.code.Code.TheVariants as code
use Rattle.fzn_reader.specs.declared.refused.Refused.{Refused}
use Rattle.fzn_reader.specs.Refusals.{◌>>=◌, refuse, mark_at, separated_at}
use Rattle.fzn_reader.specs.Sets.{number_at}
use Rattle.fzn_reader.specs.Annotations.{ann_at, has_arguments}

-- `output_var` without arguments
abbrev pub is_output_var : List Spot → Bool
is_output_var ts = bytes_eq (first ts).text (codes "output_var") && not (has_arguments ts)

-- an annotation of a variable, and whether an output is made by now
unfoldable pub variable_ann : Bool → List Spot → Result (Bool × List Spot) Refused
variable_ann output ts = ann_at ts >>= λ rest. Ok (output || is_output_var ts, rest)

-- one index range more, as given
unfoldable pub one_range : List (ℤ × ℤ) → List Spot → Result (List (ℤ × ℤ) × List Spot) Refused
one_range ranges ts = do
  low ← number_at ts
  dots ← mark_at (codes "..") low.1
  high ← number_at dots
  Ok (ranges ++ (low.0, high.0) ∷ [], high.1)

-- "(" "[" range { "," range } "]" ")"
unfoldable pub index_ranges_at : List Spot → Result (List (ℤ × ℤ) × List Spot) Refused
index_ranges_at ts = do
  open_ ← mark_at (codes "(") ts
  list ← mark_at (codes "[") open_
  ranges ← separated_at (codes "]") one_range [] list
  bracket ← mark_at (codes "]") ranges.1
  close ← mark_at (codes ")") bracket
  Ok (ranges.0, close)

-- one to six ranges whose sizes multiply to the array's length
abbrev pub is_shape : ℕ → List (ℤ × ℤ) → Bool
is_shape count ranges = nat_lt 0 (length ranges) && (nat_le (length ranges) 6 && nat_eq (array_size ranges) count)

-- the index ranges, where the arguments have this form
abbrev pub shaped : ℕ → Result (List (ℤ × ℤ) × List Spot) Refused → Option (List (ℤ × ℤ))
shaped count (Ok x) = if is_shape count x.0 then Some x.0 else None
shaped count (Err e) = None

-- the first output counts; each is checked
abbrev pub with_ranges : Option (List (ℤ × ℤ)) → Option (List (ℤ × ℤ)) → List Spot → List Spot → Result (Option (List (ℤ × ℤ)) × List Spot) Refused
with_ranges made None ts rest = refuse code.WrongArguments ts
with_ranges None (Some ranges) ts rest = Ok (Some ranges, rest)
with_ranges (Some made) (Some ranges) ts rest = Ok (Some made, rest)

-- an annotation of an array of so many variables, and the index ranges of the output that is made by now
unfoldable pub array_ann : ℕ → Option (List (ℤ × ℤ)) → List Spot → Result (Option (List (ℤ × ℤ)) × List Spot) Refused
array_ann count made ts = do
  rest ← ann_at ts
  if bytes_eq (first ts).text (codes "output_array") then with_ranges made (shaped count (index_ranges_at (after_first ts))) ts rest else Ok (made, rest)
