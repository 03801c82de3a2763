-- Which arguments each shape reads, and that those of a name are there: what `specs/Arguments.antt` puts in the place of an
-- argument that isn't there, or is of another kind, is never read.
use Rattle.std.specs.Prelude.{◌≡◌, ℕ, ◌<◌, List, length, Some, All, ⊤}
use Rattle.fzn_builtin.specs.declared.arg.Arg.{Arg}
use Rattle.fzn_builtin.specs.declared.arg.Arg.TheVariants as arg
use Rattle.fzn_builtin.specs.declared.shape.Relation.{Relation}
use Rattle.fzn_builtin.specs.declared.shape.Relation.TheVariants as relation
use Rattle.fzn_builtin.specs.declared.shape.Shape.{Shape}
use Rattle.fzn_builtin.specs.declared.shape.Shape.TheVariants as shape
use Rattle.fzn_builtin.specs.declared.table.TheConstants.{ROWS}
use Rattle.fzn_builtin.specs.Builtins.{numbered, needs_of, shape_of, IsArgumentCount}
use Rattle.fzn_builtin.specs.Arguments.{Fits, IsConst, arg_at, term_at, terms_at}
use Rattle.fzn_builtin.specs.Constraints.{count}

-- an int or a bool; a bool; a list of ints or bools; a list of bools; a set
abbrev pub IsTerm : Arg → Type 0
IsTerm (arg.Int t) = ⊤
IsTerm (arg.Bool t) = ⊤
IsTerm a = ⊥

abbrev pub IsBoolArg : Arg → Type 0
IsBoolArg (arg.Bool t) = ⊤
IsBoolArg a = ⊥

abbrev pub IsTerms : Arg → Type 0
IsTerms (arg.Ints ts) = ⊤
IsTerms (arg.Bools ts) = ⊤
IsTerms a = ⊥

abbrev pub AreBoolArgs : Arg → Type 0
AreBoolArgs (arg.Bools ts) = ⊤
AreBoolArgs a = ⊥

abbrev pub IsSet : Arg → Type 0
IsSet (arg.Set s) = ⊤
IsSet a = ⊥

-- in the place stands an argument of this kind
unfoldable pub HasTerm : List Arg → ℕ → Type 0
HasTerm args place = (place < length args) × IsTerm (arg_at args place)

unfoldable pub IsBoolAt : List Arg → ℕ → Type 0
IsBoolAt args place = IsBoolArg (arg_at args place)

abbrev pub HasTruth : List Arg → ℕ → Type 0
HasTruth args place = HasTerm args place × IsBoolAt args place

unfoldable pub HasTerms : List Arg → ℕ → Type 0
HasTerms args place = (place < length args) × IsTerms (arg_at args place)

unfoldable pub AreBoolsAt : List Arg → ℕ → Type 0
AreBoolsAt args place = AreBoolArgs (arg_at args place)

abbrev pub HasTruths : List Arg → ℕ → Type 0
HasTruths args place = HasTerms args place × AreBoolsAt args place

unfoldable pub HasSet : List Arg → ℕ → Type 0
HasSet args place = (place < length args) × IsSet (arg_at args place)

-- three terms, or three bools
abbrev pub HasThreeTerms : List Arg → Type 0
HasThreeTerms args = HasTerm args 0 × HasTerm args 1 × HasTerm args 2

abbrev pub HasThreeTruths : List Arg → Type 0
HasThreeTruths args = HasTruth args 0 × HasTruth args 1 × HasTruth args 2

-- The arguments that the relation, or the constraint, reads are there and of the kinds that it reads.
abbrev pub HasRelationArguments : Relation → List Arg → Type 0
HasRelationArguments (relation.Difference rel) args = HasTerm args 0 × HasTerm args 1
HasRelationArguments relation.Below args = HasTerm args 0 × HasTerm args 1
HasRelationArguments (relation.Sum rel) args = HasTerms args 0 × All IsConst (terms_at args 0) × HasTerms args 1 × HasTerm args 2 × IsConst (term_at args 2)
HasRelationArguments relation.Disjunction args = HasTruths args 0 × HasTruths args 1
HasRelationArguments relation.InSet args = HasTerm args 0 × HasSet args 1

abbrev pub HasArguments : Shape → List Arg → Type 0
HasArguments (shape.Posted r) args = HasRelationArguments r args
HasArguments (shape.Reified r) args = HasRelationArguments r args × HasTruth args (count r)
HasArguments shape.Xor args = HasTruth args 0 × HasTruth args 1 × ((length args ≡ 2 → ⊥) → HasTruth args 2)
HasArguments shape.BothTrue args = HasThreeTruths args
HasArguments shape.EitherTrue args = HasThreeTruths args
HasArguments shape.AllTrue args = HasTruths args 0 × HasTruth args 1
HasArguments shape.AnyTrue args = HasTruths args 0 × HasTruth args 1
HasArguments shape.Plus args = HasThreeTerms args
HasArguments shape.Times args = HasThreeTerms args
HasArguments shape.Quotient args = HasThreeTerms args
HasArguments shape.Remainder args = HasThreeTerms args
HasArguments shape.Absolute args = HasTerm args 0 × HasTerm args 1
HasArguments shape.Larger args = HasThreeTerms args
HasArguments shape.Smaller args = HasThreeTerms args
HasArguments shape.Largest args = HasTerm args 0 × HasTerms args 1
HasArguments shape.Smallest args = HasTerm args 0 × HasTerms args 1
HasArguments shape.Element args = HasTerm args 0 × HasTerms args 1 × HasTerm args 2
HasArguments shape.Different args = HasTerms args 0
HasArguments shape.Cumulative args = HasTerms args 0 × HasTerms args 1 × HasTerms args 2 × HasTerm args 3
HasArguments shape.Rows args = HasTerms args 0 × HasTerms args 1 × All IsConst (terms_at args 1)

pub record ArgumentsAreRead : Type 0 where
  -- the number of a name is that of a row
  pub row : (name : List ℕ) (number : ℕ) → numbered name ≡ Some number → number < ROWS
  -- of arguments that fit the needs of a row, and are a whole list, all that its shape reads is there
  pub read : (number : ℕ) (args : List Arg) → number < ROWS → Fits (needs_of number) args → IsArgumentCount number (length args) → HasArguments (shape_of number) args
