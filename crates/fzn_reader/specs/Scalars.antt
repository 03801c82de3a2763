-- Ints and bools, and elements of lists:
--   expr = "true" | "false" | Number | name, by the type that its place needs
use Rattle.std.specs.Prelude.{List, Bool, true, false, Option, Some, None, Result, Ok, if◌then◌else◌, ◌&&◌, not, codes, ℤ, pos}
use Rattle.fzn_lexer.specs.Spots.{Spot, first, after_first}
use Rattle.fzn_model.specs.declared.term.Term.{Term}
use Rattle.fzn_model.specs.declared.term.Term.TheVariants.{Const, Var}
use Rattle.fzn_reader.specs.declared.decl.Decl.{Decl}
use Rattle.fzn_reader.specs.declared.decl.Decl.TheVariants as decl
use Rattle.fzn_reader.specs.declared.scalar.Scalar.{Scalar}
use Rattle.fzn_reader.specs.declared.scalar.Scalar.TheVariants.{IntConst, IntTerm, BoolConst, BoolTerm}
use Rattle.fzn_reader.specs.declared.begin.Begin.{Begin}
use Rattle.fzn_reader.specs.declared.begin.Begin.TheVariants as begin
use Rattle.fzn_reader.specs.declared.code.Code.TheVariants as code
use Rattle.fzn_reader.specs.declared.refused.Refused.{Refused}
use Rattle.fzn_reader.specs.Refusals.{◌>>=◌, refuse, value_or, is_mark}
use Rattle.fzn_reader.specs.Names.{Names, find_name}
use Rattle.fzn_reader.specs.Numbers.{number_in}
use Rattle.fzn_reader.specs.Exprs.{begins}

-- a constant, and no variable
abbrev pub is_constant : Term → Bool
is_constant (Const z) = true
is_constant (Var k) = false

-- the term, where it is a constant
abbrev pub constant_only : Term → Option Term
constant_only t = if is_constant t then Some t else None

-- the term, where a declaration has the type needed
abbrev pub fitting_term : Scalar → Decl → Option Term
fitting_term IntConst (decl.Int t) = constant_only t
fitting_term IntTerm (decl.Int t) = Some t
fitting_term BoolConst (decl.Bool t) = constant_only t
fitting_term BoolTerm (decl.Bool t) = Some t
fitting_term s d = None

-- an int is needed, and no bool
abbrev pub takes_numbers : Scalar → Bool
takes_numbers IntConst = true
takes_numbers IntTerm = true
takes_numbers BoolConst = false
takes_numbers BoolTerm = false

-- a name, by what it stands for
abbrev pub named_term : Scalar → Option Decl → List Spot → Result (Term × List Spot) Refused
named_term s None ts = refuse code.Undeclared ts
named_term s (Some d) ts = value_or code.WrongArguments (fitting_term s d) ts

-- the constant that a number is
abbrev pub constant_of : ℤ × List Spot → Result (Term × List Spot) Refused
constant_of z = Ok (Const z.0, z.1)

-- false is 0 and true is 1
abbrev pub truth_term : Bool → Term
truth_term true = Const (pos 1)
truth_term false = Const (pos 0)

-- An int or a bool, by what begins here. A number with `..` behind it is a set.
abbrev pub scalar_by : Begin → Scalar → Names → List Spot → Result (Term × List Spot) Refused
scalar_by begin.Number s names ts = if takes_numbers s && not (is_mark (codes "..") (after_first ts)) then (value_or code.OutOfRange (number_in (first ts).text) ts >>= constant_of) else refuse code.WrongArguments ts
scalar_by begin.Real s names ts = refuse code.Float ts
scalar_by (begin.Truth b) s names ts = if takes_numbers s then refuse code.WrongArguments ts else Ok (truth_term b, after_first ts)
scalar_by begin.Name s names ts = named_term s (find_name names (first ts).text) ts
scalar_by begin.Brace s names ts = refuse code.WrongArguments ts
scalar_by begin.Bracket s names ts = refuse code.WrongArguments ts
scalar_by begin.Other s names ts = refuse code.Syntax ts

-- an int or a bool
unfoldable pub scalar_at : Scalar → Names → List Spot → Result (Term × List Spot) Refused
scalar_at s names ts = scalar_by (begins ts) s names ts

-- An element of a list: without room for one more it is too many at its first token, unless that shows a lesser code.
abbrev pub limited : {A : Type 0} → Bool → List Spot → Result A Refused → Result A Refused
limited true ts read = read
limited false ts read = read >>= λ x. refuse code.TooMany ts
