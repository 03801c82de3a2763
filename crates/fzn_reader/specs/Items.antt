-- The items that declare names:
--   partype ":" name { "::" ann } "=" expr
--   "var" vartype ":" name { "::" ann } [ "=" expr ]
--   "array" "[" "1" ".." Number "]" "of" partype ":" name { "::" ann } "=" list
--   "array" "[" "1" ".." Number "]" "of" "var" vartype ":" name { "::" ann } "=" list
-- A name is declared for the items behind its own.
use Rattle.std.specs.Prelude.{ℕ, ◌+◌, List, Bool, true, false, Option, Some, None, Result, Ok, if◌then◌else◌, codes, nat_lt, nat_eq, length, ℤ}
use Rattle.fzn_lexer.specs.Spots.{Spot, first, after_first}
use Rattle.fzn_lexer.specs.declared.kind.Kind.TheVariants as kind
use Rattle.fzn_model.specs.declared.term.Term.{Term}
use Rattle.fzn_model.specs.declared.out.Out.{Out}
use Rattle.fzn_model.specs.Shapes.{natural}
use Rattle.fzn_reader.specs.declared.decl.Decl.{Decl}
use Rattle.fzn_reader.specs.declared.decl.Decl.TheVariants as decl
use Rattle.fzn_reader.specs.declared.scalar.Scalar.{Scalar}
use Rattle.fzn_reader.specs.declared.scalar.Scalar.TheVariants.{IntConst, IntTerm, BoolConst, BoolTerm}
use Rattle.fzn_reader.specs.declared.par_type.ParType.{ParType}
use Rattle.fzn_reader.specs.declared.par_type.ParType.TheVariants as par
use Rattle.fzn_reader.specs.declared.code.Code.TheVariants as code
use Rattle.fzn_reader.specs.declared.refused.Refused.{Refused}
use Rattle.fzn_reader.specs.Refusals.{◌>>=◌, refuse, is_mark, is_word, is_spelled, mark_at, word_at, separator_at, repeat, most}
use Rattle.fzn_reader.specs.Names.{Names}
use Rattle.fzn_reader.specs.Sets.{number_at}
use Rattle.fzn_reader.specs.Types.{partype_at, vartype_at, new_name_at, set_at}
use Rattle.fzn_reader.specs.Scalars.{scalar_at}
use Rattle.fzn_reader.specs.Lists.{ends_list, has_room, elements_at}
use Rattle.fzn_reader.specs.Annotations.{ann_at, passing, annotations_at}
use Rattle.fzn_reader.specs.Outputs.{variable_ann, array_ann}
use Rattle.fzn_reader.specs.Drafts.{Stated, with_name, with_elements, with_out, with_var}

-- the value of a parameter, by its type
abbrev pub value_by : ParType → Names → List Spot → Result (Decl × List Spot) Refused
value_by par.Bool names ts = scalar_at BoolConst names ts >>= λ x. Ok (decl.Bool x.0, x.1)
value_by par.Int names ts = scalar_at IntConst names ts >>= λ x. Ok (decl.Int x.0, x.1)
value_by par.Set names ts = set_at true names ts >>= λ x. Ok (decl.Set x.0, x.1)

-- partype ":" name { "::" ann } "=" expr
unfoldable pub parameter_at : Stated → List Spot → Result (Stated × List Spot) Refused
parameter_at d ts = do
  ty ← partype_at ts
  colon ← mark_at (codes ":") ty.1
  name ← new_name_at true d.names colon
  anns ← annotations_at (passing ann_at) tt name.1
  equals ← mark_at (codes "=") anns.1
  value ← value_by ty.0 d.names equals
  Ok (with_name d name.0 value.0, value.1)

-- the type that an int or a bool variable needs of its initialiser, and an array of them of its elements
abbrev pub term_need : Bool → Scalar
term_need true = BoolTerm
term_need false = IntTerm

-- [ "=" expr ]
unfoldable pub initialiser_at : Scalar → Names → List Spot → Result (Option Term × List Spot) Refused
initialiser_at s names ts = if is_mark (codes "=") ts then (scalar_at s names (after_first ts) >>= λ x. Ok (Some x.0, x.1)) else Ok (None, ts)

-- "var" vartype ":" name { "::" ann } [ "=" expr ], from its "var" on
unfoldable pub variable_at : Stated → List Spot → Result (Stated × List Spot) Refused
variable_at d ts = do
  ty ← vartype_at (after_first ts)
  colon ← mark_at (codes ":") ty.1
  name ← new_name_at (nat_lt (length d.doms) 100000) d.names colon
  output ← annotations_at variable_ann false name.1
  value ← initialiser_at (term_need ty.0.truth) d.names output.1
  Ok (with_var d name.0 ty.0 output.0 value.0, value.1)

-- "1"
unfoldable pub one_at : List Spot → Result (List Spot) Refused
one_at ts = if is_spelled kind.Number (codes "1") (first ts) then Ok (after_first ts) else refuse code.Syntax ts

-- "[" "1" ".." Number "]" "of": how many elements the array has, none where the number is below 1
unfoldable pub length_at : List Spot → Result (ℕ × List Spot) Refused
length_at ts = do
  bracket ← mark_at (codes "[") ts
  one ← one_at bracket
  dots ← mark_at (codes "..") one
  count ← number_at dots
  close ← mark_at (codes "]") count.1
  of ← word_at (codes "of") close
  Ok (natural count.0, of)

-- "=" "["
unfoldable pub opening_at : List Spot → Result (List Spot) Refused
opening_at ts = mark_at (codes "=") ts >>= λ equals. mark_at (codes "[") equals

-- the "]" of a list of so many elements, where so many were declared
unfoldable pub closing_at : ℕ → ℕ → List Spot → Result (List Spot) Refused
closing_at count declared ts = if is_mark (codes "]") ts then (if nat_eq count declared then Ok (after_first ts) else refuse code.Lengths ts) else refuse code.Syntax ts

-- "=" list, of ints or bools
unfoldable pub list_at : ℕ → ℕ → Scalar → Names → List Spot → Result (List Term × List Spot) Refused
list_at declared used s names ts = do
  bracket ← opening_at ts
  elements ← elements_at used s names bracket
  close ← closing_at (length elements.0) declared elements.1
  Ok (elements.0, close)

-- one set more of a list, and the comma behind it
unfoldable pub one_set : ℕ → Names → ℕ → List Spot → Result (ℕ × List Spot) Refused
one_set used names count ts = do
  set ← set_at (has_room (used + count)) names ts
  rest ← separator_at (codes "]") set.1
  Ok (count + 1, rest)

-- "=" list, of sets: how many there are
unfoldable pub sets_at : ℕ → ℕ → Names → List Spot → Result (ℕ × List Spot) Refused
sets_at declared used names ts = do
  bracket ← opening_at ts
  sets ← repeat ends_list (one_set used names) most 0 bracket
  close ← closing_at sets.0 declared sets.1
  Ok (sets.0, close)

-- the elements of an array of parameters, by their type; and how many there are
abbrev pub values_by : ParType → ℕ → ℕ → Names → List Spot → Result ((Decl × ℕ) × List Spot) Refused
values_by par.Bool declared used names ts = list_at declared used BoolConst names ts >>= λ x. Ok ((decl.Bools true x.0, length x.0), x.1)
values_by par.Int declared used names ts = list_at declared used IntConst names ts >>= λ x. Ok ((decl.Ints true x.0, length x.0), x.1)
values_by par.Set declared used names ts = sets_at declared used names ts >>= λ x. Ok ((decl.Sets, x.0), x.1)

-- an array, whose elements are counted
abbrev pub with_array : Stated → List ℕ → Decl → ℕ → Stated
with_array d name what count = with_elements (with_name d name what) (d.elements + count)

-- partype ":" name { "::" ann } "=" list, of so many elements
unfoldable pub parameters_at : ℕ → Stated → List Spot → Result (Stated × List Spot) Refused
parameters_at declared d ts = do
  ty ← partype_at ts
  colon ← mark_at (codes ":") ty.1
  name ← new_name_at true d.names colon
  anns ← annotations_at (passing ann_at) tt name.1
  values ← values_by ty.0 declared d.elements d.names anns.1
  Ok (with_array d name.0 values.0.0 values.0.1, values.1)

-- an array of variables, ints or bools
abbrev pub array_of : Bool → List Term → Decl
array_of true terms = decl.Bools false terms
array_of false terms = decl.Ints false terms

-- the output of an array, with its index ranges
abbrev pub array_out : List ℕ → Bool → List Term → List (ℤ × ℤ) → Out
array_out name truth terms ranges = record { name = name; dims = ranges; terms = terms; truth = truth }

-- the output, where an annotation makes one
abbrev pub with_array_out : Option (List (ℤ × ℤ)) → List ℕ → Bool → List Term → Stated → Stated
with_array_out None name truth terms d = d
with_array_out (Some ranges) name truth terms d = with_out d (array_out name truth terms ranges)

-- vartype ":" name { "::" ann } "=" list, of so many elements; the type but tells ints from bools
unfoldable pub variables_at : ℕ → Stated → List Spot → Result (Stated × List Spot) Refused
variables_at declared d ts = do
  ty ← vartype_at ts
  colon ← mark_at (codes ":") ty.1
  name ← new_name_at true d.names colon
  made ← annotations_at (array_ann declared) None name.1
  terms ← list_at declared d.elements (term_need ty.0.truth) d.names made.1
  Ok (with_array_out made.0 name.0 ty.0.truth terms.0 (with_array d name.0 (array_of ty.0.truth terms.0) (length terms.0)), terms.1)

-- "array" "[" "1" ".." Number "]" "of" .., from its "array" on
unfoldable pub array_at : Stated → List Spot → Result (Stated × List Spot) Refused
array_at d ts = do
  count ← length_at (after_first ts)
  if is_word (codes "var") count.1 then variables_at count.0 d (after_first count.1) else parameters_at count.0 d count.1
