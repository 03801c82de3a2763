-- What a file states: the grammar of FlatZinc (MiniZinc Handbook) in this project's profile, and beside each rule what it
-- makes. An item makes of what was stated before it what is stated behind it (`specs/Drafts.antt` of the reader).
use Rattle.std.specs.Prelude.{◌≡◌, ℕ, ◌+◌, ◌≤◌, List, [], ◌∷◌, ◌++◌, Bool, true, false, Option, Some, None, ◌||◌, ◌&&◌, not, codes, nat_lt, nat_eq, length, is_some, slice_get, ℤ, pos, neg_ℤ}
use Rattle.std.specs.Str.{bytes_eq}
use Rattle.std.specs.Ordering.{int_cmp}
use Rattle.std.specs.BTreeSet.{insert_key}
use Rattle.fzn_lexer.specs.Spots.{Spot, first}
use Rattle.fzn_lexer.specs.Passes.{spots_of}
use Rattle.fzn_lexer.specs.declared.seen.Seen.TheVariants.{End}
use Rattle.fzn_lexer.specs.declared.kind.Kind.TheVariants as kind
use Rattle.fzn_model.specs.Values.{largest}
use Rattle.fzn_model.specs.Shapes.{natural}
use Rattle.fzn_model.specs.Parts.{Parts}
use Rattle.fzn_model.specs.declared.term.Term.{Term}
use Rattle.fzn_model.specs.declared.term.Term.TheVariants.{Const}
use Rattle.fzn_model.specs.declared.con.Con.{Con}
use Rattle.fzn_model.specs.declared.goal.Goal.{Goal}
use Rattle.fzn_model.specs.declared.goal.Goal.TheVariants as goals
use Rattle.fzn_builtin.specs.declared.arg.Arg.{Arg}
use Rattle.fzn_builtin.specs.declared.arg.Arg.TheVariants as arg
use Rattle.fzn_builtin.specs.declared.needs.Need.{Need}
use Rattle.fzn_builtin.specs.declared.needs.Need.TheVariants as need
use Rattle.fzn_builtin.specs.Builtins.{numbered, needs_of, shape_of}
use Rattle.fzn_builtin.specs.Constraints.{constraint_of}
use Rattle.fzn_reader.specs.declared.decl.Decl.{Decl}
use Rattle.fzn_reader.specs.declared.decl.Decl.TheVariants as decl
use Rattle.fzn_reader.specs.declared.par_type.ParType.{ParType}
use Rattle.fzn_reader.specs.declared.par_type.ParType.TheVariants as par
use Rattle.fzn_reader.specs.declared.var_type.VarType.{VarType}
use Rattle.fzn_reader.specs.declared.scalar.Scalar.{Scalar}
use Rattle.fzn_reader.specs.declared.scalar.Scalar.TheVariants.{IntConst, IntTerm, BoolConst, BoolTerm}
use Rattle.fzn_reader.specs.Refusals.{is_kind, is_spelled, is_reserved}
use Rattle.fzn_reader.specs.Names.{Names, find_name}
use Rattle.fzn_reader.specs.Numbers.{number_in}
use Rattle.fzn_reader.specs.Sets.{range_set, runs_of}
use Rattle.fzn_reader.specs.Scalars.{takes_numbers, truth_term, fitting_term}
use Rattle.fzn_reader.specs.Lists.{has_room}
use Rattle.fzn_reader.specs.Outputs.{is_output_var, is_shape}
use Rattle.fzn_reader.specs.Items.{term_need, with_array, array_of, with_array_out}
use Rattle.fzn_reader.specs.Solving.{first_search}
use Rattle.fzn_reader.specs.Search.{order_of}
use Rattle.fzn_reader.specs.Constraints.{fitting_list, Counted, Args, is_argument_count}
use Rattle.fzn_reader.specs.Drafts.{Stated, nothing, with_name, with_goal, with_var, with_item, with_elements}
use Rattle.fzn_parser.specs.Grammar.{Ann, is_token}
use Rattle.fzn_parser.specs.Rules.{Rule, ◌>>=◌, ◌>>◌, ◌∣◌, makes, some, holds, here, token, text, mark, word, spelled, Each, Commas, Listed}

-- a word that isn't reserved
abbrev pub name : Rule (List ℕ)
name = text (λ s. is_kind kind.Word s.seen && not (is_reserved s.text))

-- what a name stands for, by its declaration, where the place takes that
unfoldable pub named : {A : Type 0} → (Decl → Option A) → Names → Rule A
named fits names = do
  t ← name
  what ← some (find_name names t)
  some (fits what)

-- Number, within the values of a model
unfoldable pub number : Rule ℤ
number = do
  t ← text (λ s. is_kind kind.Number s.seen)
  some (number_in t)

-- Number ".." Number
unfoldable pub bounds : Rule (ℤ × ℤ)
bounds = do
  low ← number
  mark (codes "..")
  high ← number
  makes (low, high)

-- the same as a set: the numbers from the first to the second
unfoldable pub range : Rule (List (ℤ × ℤ))
range = bounds >>= λ b. makes (range_set b.0 b.1)

-- "{" [ Number { "," Number } ] "}"
unfoldable pub braces : Rule (List (ℤ × ℤ))
braces = do
  mark (codes "{")
  numbers ← Commas (λ zs. number >>= λ z. makes (insert_key int_cmp zs z)) []
  mark (codes "}")
  makes (runs_of numbers)

-- the set that a declaration is
abbrev pub set_in : Decl → Option (List (ℤ × ℤ))
set_in (decl.Set runs) = Some runs
set_in d = None

-- a set, or its name
unfoldable pub set : Names → Rule (List (ℤ × ℤ))
set names = range ∣ braces ∣ named set_in names

-- Number | "true" | "false" | name, of the type that the place needs
unfoldable pub scalar : Scalar → Names → Rule Term
scalar s names =
    (do holds (takes_numbers s); z ← number; makes (Const z))
    ∣ (do holds (not (takes_numbers s)); word (codes "true"); makes (truth_term true))
    ∣ (do holds (not (takes_numbers s)); word (codes "false"); makes (truth_term false))
    ∣ named (fitting_term s) names

-- an element of a list, where there is room for it
unfoldable pub element : ℕ → Scalar → Names → List Term → Rule (List Term)
element used s names done = do
  t ← scalar s names
  holds (has_room (used + length done))
  makes (done ++ t ∷ [])

-- a set of a list, where there is room for it
unfoldable pub set_element : ℕ → Names → ℕ → Rule ℕ
set_element used names count = do
  set names
  holds (has_room (used + count))
  makes (count + 1)

-- "[" [ expr { "," expr } [ "," ] ] "]" | name, and how many elements stood in lists by now
unfoldable pub list : Scalar → Names → ℕ → Rule Counted
list s names used =
    (do mark (codes "["); terms ← Listed (element used s names) []; mark (codes "]"); makes (terms, used + length terms))
    ∣ (named (fitting_list s) names >>= λ terms. makes (terms, used))

-- "bool" | "int" | "set" "of" "int"
unfoldable pub partype : Rule ParType
partype =
    (word (codes "bool") >> makes par.Bool)
    ∣ (word (codes "int") >> makes par.Int)
    ∣ (word (codes "set") >> (word (codes "of") >> (word (codes "int") >> makes par.Set)))

-- "bool" | "int" | Number ".." Number | "{" [ Number { "," Number } ] "}"
unfoldable pub vartype : Rule VarType
vartype =
    (word (codes "bool") >> makes (record { set = (pos 0, pos 1) ∷ []; truth = true }))
    ∣ (word (codes "int") >> makes (record { set = (neg_ℤ (pos largest), pos largest) ∷ []; truth = false }))
    ∣ (range >>= λ set. makes (record { set = set; truth = false }))
    ∣ (braces >>= λ set. makes (record { set = set; truth = false }))

-- a name that isn't declared yet, where there is room for what it names
unfoldable pub new_name : Bool → Names → Rule (List ℕ)
new_name room names = do
  t ← name
  holds (not (is_some (find_name names t)))
  holds room
  makes t

-- "::" ann, which adds nothing
unfoldable pub annotation : Unit {0} → Rule (Unit {0})
annotation before = do
  mark (codes "::")
  spelled Ann
  makes before

-- "predicate" name "(" { any token but ";" }
unfoldable pub predicate : Rule (Unit {0})
predicate = do
  word (codes "predicate")
  name
  mark (codes "(")
  Each (λ u. token (λ s. is_token s.seen && not (is_spelled kind.Mark (codes ";") s))) tt

-- the value of a parameter
unfoldable pub value : ParType → Names → Rule Decl
value par.Bool names = scalar BoolConst names >>= λ t. makes (decl.Bool t)
value par.Int names = scalar IntConst names >>= λ t. makes (decl.Int t)
value par.Set names = set names >>= λ runs. makes (decl.Set runs)

-- partype ":" name { "::" ann } "=" expr
unfoldable pub parameter : Stated → Rule Stated
parameter d = do
  ty ← partype
  mark (codes ":")
  t ← new_name true d.names
  Each annotation tt
  mark (codes "=")
  what ← value ty d.names
  makes (with_name d t what)

-- "::" ann, and whether one by now is `output_var`
unfoldable pub output_var : Bool → Rule Bool
output_var before = do
  mark (codes "::")
  place ← here
  spelled Ann
  makes (before || is_output_var place)

-- [ "=" expr ]
unfoldable pub initialiser : Scalar → Names → Rule (Option Term)
initialiser s names = makes None ∣ (do mark (codes "="); t ← scalar s names; makes (Some t))

-- "var" vartype ":" name { "::" ann } [ "=" expr ]
unfoldable pub variable : Stated → Rule Stated
variable d = do
  word (codes "var")
  ty ← vartype
  mark (codes ":")
  t ← new_name (nat_lt (length d.doms) 100000) d.names
  output ← Each output_var false
  initial ← initialiser (term_need ty.truth) d.names
  makes (with_var d t ty output initial)

-- "[" "1" ".." Number "]" "of"
unfoldable pub size : Rule ℕ
size = do
  mark (codes "[")
  token (is_spelled kind.Number (codes "1"))
  mark (codes "..")
  count ← number
  mark (codes "]")
  word (codes "of")
  makes (natural count)

-- "=" "[" [ X { "," X } [ "," ] ] "]", of as many as are declared
unfoldable pub listing : {S : Type 0} → (S → Rule S) → S → (S → ℕ) → ℕ → Rule S
listing X s count declared = do
  mark (codes "=")
  mark (codes "[")
  made ← Listed X s
  holds (nat_eq (count made) declared)
  mark (codes "]")
  makes made

-- "=" list of parameters, and how many elements it has
unfoldable pub values : ParType → ℕ → ℕ → Names → Rule (Decl × ℕ)
values par.Bool declared used names = listing (element used BoolConst names) [] length declared >>= λ terms. makes (decl.Bools true terms, length terms)
values par.Int declared used names = listing (element used IntConst names) [] length declared >>= λ terms. makes (decl.Ints true terms, length terms)
values par.Set declared used names = listing (set_element used names) 0 (λ n. n) declared >>= λ count. makes (decl.Sets, count)

-- partype ":" name { "::" ann } "=" list
unfoldable pub parameters : ℕ → Stated → Rule Stated
parameters declared d = do
  ty ← partype
  mark (codes ":")
  t ← new_name true d.names
  Each annotation tt
  what ← values ty declared d.elements d.names
  makes (with_array d t what.0 what.1)

-- "(" "[" [ Number ".." Number { "," Number ".." Number } ] "]" ")"
unfoldable pub index_ranges : Rule (List (ℤ × ℤ))
index_ranges = do
  mark (codes "(")
  mark (codes "[")
  ranges ← Commas (λ before. bounds >>= λ r. makes (before ++ r ∷ [])) []
  mark (codes "]")
  mark (codes ")")
  makes ranges

-- what was made earlier, or else this
abbrev pub earlier_or : {A : Type 0} → Option A → A → Option A
earlier_or None x = Some x
earlier_or (Some y) x = Some y

-- "::" ann of an array of so many variables. One that is named `output_array` has index ranges whose sizes multiply to the
-- array's length, and makes an output where none before it did.
unfoldable pub output_array : ℕ → Option (List (ℤ × ℤ)) → Rule (Option (List (ℤ × ℤ)))
output_array count before = do
  mark (codes "::")
  (do place ← here; spelled Ann; holds (not (bytes_eq (first place).text (codes "output_array"))); makes before)
      ∣ (do word (codes "output_array"); ranges ← index_ranges; holds (is_shape count ranges); makes (earlier_or before ranges))

-- "var" vartype ":" name { "::" ann } "=" list
unfoldable pub variables : ℕ → Stated → Rule Stated
variables declared d = do
  word (codes "var")
  ty ← vartype
  mark (codes ":")
  t ← new_name true d.names
  ranges ← Each (output_array declared) None
  terms ← listing (element d.elements (term_need ty.truth) d.names) [] length declared
  makes (with_array_out ranges t ty.truth terms (with_array d t (array_of ty.truth terms) (length terms)))

-- "array" "[" "1" ".." Number "]" "of" ( parameters | variables )
unfoldable pub array : Stated → Rule Stated
array d = do
  word (codes "array")
  declared ← size
  parameters declared d ∣ variables declared d

-- an argument, as the table of constraints needs it in its place
unfoldable pub argument : Need → Names → ℕ → Rule (Arg × ℕ)
argument need.IntConst names used = scalar IntConst names >>= λ t. makes (arg.Int t, used)
argument need.IntTerm names used = scalar IntTerm names >>= λ t. makes (arg.Int t, used)
argument need.BoolTerm names used = scalar BoolTerm names >>= λ t. makes (arg.Bool t, used)
argument need.SetConst names used = set names >>= λ runs. makes (arg.Set runs, used)
argument need.IntConsts names used = list IntConst names used >>= λ l. makes (arg.Ints l.0, l.1)
argument need.IntTerms names used = list IntTerm names used >>= λ l. makes (arg.Ints l.0, l.1)
argument need.BoolConsts names used = list BoolConst names used >>= λ l. makes (arg.Bools l.0, l.1)
argument need.BoolTerms names used = list BoolTerm names used >>= λ l. makes (arg.Bools l.0, l.1)

-- one argument more
unfoldable pub one_argument : ℕ → Names → Args → Rule Args
one_argument builtin names done = do
  n ← some (slice_get (needs_of builtin) (length done.0))
  a ← argument n names done.1
  makes (done.0 ++ a.0 ∷ [], a.1)

-- name "(" [ expr { "," expr } ] ")", of a constraint that the table has, and what the table makes of the arguments
unfoldable pub call : ℕ → Names → Rule (Con × ℕ)
call used names = do
  t ← name
  builtin ← some (numbered t)
  mark (codes "(")
  args ← Commas (one_argument builtin names) ([], used)
  holds (is_argument_count builtin (length args.0))
  con ← some (constraint_of (shape_of builtin) args.0)
  mark (codes ")")
  makes (con, args.1)

-- "constraint" name "(" [ expr { "," expr } ] ")" { "::" ann }
unfoldable pub constraint : Stated → Rule Stated
constraint d = do
  holds (nat_lt d.items 200000)
  word (codes "constraint")
  con ← call d.elements d.names
  Each annotation tt
  makes (with_elements (with_item d con.0) con.1)

-- "::" ann, and where the first search annotation stands
unfoldable pub search_annotation : Option (List Spot) → Rule (Option (List Spot))
search_annotation before = do
  mark (codes "::")
  place ← here
  spelled Ann
  makes (first_search before place)

-- "satisfy" | ( "minimize" | "maximize" ) expr
unfoldable pub goal : Names → Rule Goal
goal names =
    (word (codes "satisfy") >> makes goals.Satisfy)
    ∣ (word (codes "minimize") >> (scalar IntTerm names >>= λ t. makes (goals.Minimise t)))
    ∣ (word (codes "maximize") >> (scalar IntTerm names >>= λ t. makes (goals.Maximise t)))

-- "solve" { "::" ann } goal, once in a file
unfoldable pub solve : Stated → Rule Stated
solve d = do
  holds (not (is_some d.goal))
  word (codes "solve")
  search ← Each search_annotation None
  what ← goal d.names
  makes (with_goal d what search)

-- an item; a predicate adds nothing
unfoldable pub item : Stated → Rule Stated
item d = (predicate >> makes d) ∣ parameter d ∣ variable d ∣ array d ∣ constraint d ∣ solve d

-- item ";"
unfoldable pub one_item : Stated → Rule Stated
one_item d = do
  e ← item d
  mark (codes ";")
  makes e

-- The bytes of a file state a model: its tokens, up to its end, are items, and one of them says what is sought.
pub record States (bytes : List ℕ) (m : Parts) : Type 0 where
  pub few : length bytes ≤ 67108864
  pub end : Spot
  pub ended : end.seen ≡ End
  pub stated : Stated
  pub items : Each one_item nothing (spots_of bytes) (end ∷ []) stated
  pub goal : Goal
  pub sought : stated.goal ≡ Some goal
  pub model : m ≡ record { doms = stated.doms; cons = stated.cons; goal = goal; outs = stated.outs; order = order_of stated.names stated.search }
