-- Constraints:
--   "constraint" name "(" [ expr { "," expr } ] ")" { "::" ann }
-- The table of constraints says what each argument has to be.
use Rattle.std.specs.Prelude.{ℕ, ◌+◌, List, [], ◌∷◌, ◌++◌, Bool, true, Option, Some, None, Result, Ok, if◌then◌else◌, ◌&&◌, codes, nat_lt, nat_le, length, slice_get, is_none, option_map}
use Rattle.std.specs.List.{list_all}
use Rattle.fzn_lexer.specs.Spots.{Spot, first, after_first}
use Rattle.fzn_model.specs.declared.term.Term.{Term}
use Rattle.fzn_model.specs.declared.con.Con.{Con}
use Rattle.fzn_builtin.specs.declared.arg.Arg.{Arg}
use Rattle.fzn_builtin.specs.declared.arg.Arg.TheVariants as arg
use Rattle.fzn_builtin.specs.declared.needs.Need.{Need}
use Rattle.fzn_builtin.specs.declared.needs.Need.TheVariants as need
use Rattle.fzn_builtin.specs.Builtins.{numbered, needs_of, least_of, shape_of}
use Rattle.fzn_builtin.specs.Constraints.{constraint_of}
use Rattle.fzn_reader.specs.declared.decl.Decl.{Decl}
use Rattle.fzn_reader.specs.declared.decl.Decl.TheVariants as decl
use Rattle.fzn_reader.specs.declared.scalar.Scalar.{Scalar}
use Rattle.fzn_reader.specs.declared.scalar.Scalar.TheVariants.{IntConst, IntTerm, BoolConst, BoolTerm}
use Rattle.fzn_reader.specs.declared.begin.Begin.{Begin}
use Rattle.fzn_reader.specs.declared.begin.Begin.TheVariants as begin
use Rattle.fzn_reader.specs.declared.code.Code.{Code}
use Rattle.fzn_reader.specs.declared.code.Code.TheVariants as code
use Rattle.fzn_reader.specs.declared.refused.Refused.{Refused}
use Rattle.fzn_reader.specs.Refusals.{◌>>=◌, refuse, value_or, is_mark, mark_at, name_at, separated_at}
use Rattle.fzn_reader.specs.Names.{Names, find_name}
use Rattle.fzn_reader.specs.Exprs.{begins}
use Rattle.fzn_reader.specs.Types.{set_at}
use Rattle.fzn_reader.specs.Scalars.{is_constant, scalar_at}
use Rattle.fzn_reader.specs.Lists.{elements_at}
use Rattle.fzn_reader.specs.Annotations.{ann_at, passing, annotations_at}
use Rattle.fzn_reader.specs.Drafts.{Stated, with_item, with_elements}

-- the code that a token shows where it begins an expression of another type, or none
abbrev pub misfit_by : Begin → Names → List Spot → Code
misfit_by begin.Number names ts = code.WrongArguments
misfit_by begin.Real names ts = code.Float
misfit_by (begin.Truth b) names ts = code.WrongArguments
misfit_by begin.Name names ts = if is_none (find_name names (first ts).text) then code.Undeclared else code.WrongArguments
misfit_by begin.Brace names ts = code.WrongArguments
misfit_by begin.Bracket names ts = code.WrongArguments
misfit_by begin.Other names ts = code.Syntax

unfoldable pub misfit : Names → List Spot → Code
misfit names ts = misfit_by (begins ts) names ts

-- the list of an array of parameters, all of whose terms are constants
abbrev pub constants_only : Bool → List Term → Option (List Term)
constants_only parameters terms = if parameters && list_all is_constant terms then Some terms else None

-- The list, where a declaration is an array of the type needed. An array of variables is none of constants, whatever
-- stands in it.
abbrev pub fitting_list : Scalar → Decl → Option (List Term)
fitting_list IntConst (decl.Ints parameters terms) = constants_only parameters terms
fitting_list IntTerm (decl.Ints parameters terms) = Some terms
fitting_list BoolConst (decl.Bools parameters terms) = constants_only parameters terms
fitting_list BoolTerm (decl.Bools parameters terms) = Some terms
fitting_list s d = None

-- What an argument of a list gives: its terms, and how many elements stood in lists by now. Those of an array that is
-- named were counted at its own item.
abbrev pub Counted : Type 0
Counted = List Term × ℕ

-- an array, by what its name stands for
abbrev pub named_list : Scalar → Option Decl → ℕ → List Spot → Result (Counted × List Spot) Refused
named_list s None used ts = refuse code.Undeclared ts
named_list s (Some d) used ts = value_or code.WrongArguments (option_map (λ terms. (terms, used)) (fitting_list s d)) ts

-- a list that is written out, from its "[" on
unfoldable pub written_list : Scalar → Names → ℕ → List Spot → Result (Counted × List Spot) Refused
written_list s names used ts = do
  elements ← elements_at used s names (after_first ts)
  close ← mark_at (codes "]") elements.1
  Ok ((elements.0, used + length elements.0), close)

-- a list of ints or bools, by what begins here
abbrev pub list_by : Begin → Scalar → Names → ℕ → List Spot → Result (Counted × List Spot) Refused
list_by begin.Bracket s names used ts = written_list s names used ts
list_by begin.Name s names used ts = named_list s (find_name names (first ts).text) used ts
list_by b s names used ts = refuse (misfit names ts) ts

-- a list of ints or bools
unfoldable pub list_arg_at : Scalar → Names → ℕ → List Spot → Result (Counted × List Spot) Refused
list_arg_at s names used ts = list_by (begins ts) s names used ts

-- the arguments so far, and how many elements stood in lists by now
abbrev pub Args : Type 0
Args = List Arg × ℕ

-- one argument of the kind needed
abbrev pub arg_by : Need → Names → ℕ → List Spot → Result ((Arg × ℕ) × List Spot) Refused
arg_by need.IntConst names used ts = scalar_at IntConst names ts >>= λ x. Ok ((arg.Int x.0, used), x.1)
arg_by need.IntTerm names used ts = scalar_at IntTerm names ts >>= λ x. Ok ((arg.Int x.0, used), x.1)
arg_by need.BoolTerm names used ts = scalar_at BoolTerm names ts >>= λ x. Ok ((arg.Bool x.0, used), x.1)
arg_by need.SetConst names used ts = set_at true names ts >>= λ x. Ok ((arg.Set x.0, used), x.1)
arg_by need.IntConsts names used ts = list_arg_at IntConst names used ts >>= λ x. Ok ((arg.Ints x.0.0, x.0.1), x.1)
arg_by need.IntTerms names used ts = list_arg_at IntTerm names used ts >>= λ x. Ok ((arg.Ints x.0.0, x.0.1), x.1)
arg_by need.BoolConsts names used ts = list_arg_at BoolConst names used ts >>= λ x. Ok ((arg.Bools x.0.0, x.0.1), x.1)
arg_by need.BoolTerms names used ts = list_arg_at BoolTerm names used ts >>= λ x. Ok ((arg.Bools x.0.0, x.0.1), x.1)

-- one argument, by the need in its place; past the last place there is one too many
abbrev pub needed_by : Option Need → Names → ℕ → List Spot → Result ((Arg × ℕ) × List Spot) Refused
needed_by None names used ts = refuse (misfit names ts) ts
needed_by (Some n) names used ts = arg_by n names used ts

-- one argument more
unfoldable pub one_arg : ℕ → Names → Args → List Spot → Result (Args × List Spot) Refused
one_arg builtin names done ts = do
  a ← needed_by (slice_get (needs_of builtin) (length done.0)) names done.1 ts
  Ok ((done.0 ++ a.0.0 ∷ [], a.0.1), a.1)

-- so many arguments are a whole list
abbrev pub is_argument_count : ℕ → ℕ → Bool
is_argument_count builtin count = nat_le (least_of builtin) count && nat_le count (length (needs_of builtin))

-- the ")" behind the arguments, and the constraint of them, where the table has one for their lengths
unfoldable pub built_at : ℕ → Args → List Spot → Result ((Con × ℕ) × List Spot) Refused
built_at builtin args ts =
    if is_mark (codes ")") ts then (if is_argument_count builtin (length args.0) then value_or code.Lengths (option_map (λ c. (c, args.1)) (constraint_of (shape_of builtin) args.0)) ts else refuse code.WrongArguments ts)
    else refuse code.Syntax ts

-- the number of a name in the table
abbrev pub known : Option ℕ → List Spot → Result ℕ Refused
known None ts = refuse code.UnknownConstraint ts
known (Some b) ts = Ok b

-- name "(" [ expr { "," expr } ] ")"
unfoldable pub call_at : ℕ → Names → List Spot → Result ((Con × ℕ) × List Spot) Refused
call_at used names ts = do
  name ← name_at ts
  builtin ← known (numbered name.0) ts
  open_ ← mark_at (codes "(") name.1
  args ← separated_at (codes ")") (one_arg builtin names) ([], used) open_
  built_at builtin args.0 args.1

-- "constraint" name "(" .. ")" { "::" ann }, from its "constraint" on, which shows where it is one too many
unfoldable pub constraint_at : Stated → List Spot → Result (Stated × List Spot) Refused
constraint_at d ts = if nat_lt d.items 200000 then (do
  con ← call_at d.elements d.names (after_first ts)
  anns ← annotations_at (passing ann_at) tt con.1
  Ok (with_elements (with_item d con.0.0) con.0.1, anns.1)) else refuse code.TooMany ts
