-- Arguments: which fit which need, and what stands in a place.
use Rattle.std.specs.Prelude.{ℕ, List, [], ◌∷◌, slice_index_or, ℤ, pos, All, ⊤}
use Rattle.fzn_model.specs.declared.term.Term.{Term}
use Rattle.fzn_model.specs.declared.term.Term.TheVariants as term
use Rattle.fzn_builtin.specs.declared.arg.Arg.{Arg}
use Rattle.fzn_builtin.specs.declared.arg.Arg.TheVariants as arg
use Rattle.fzn_builtin.specs.declared.needs.Need.{Need}
use Rattle.fzn_builtin.specs.declared.needs.Need.TheVariants as need

-- a constant, and no variable
abbrev pub IsConst : Term → Type 0
IsConst (term.Const z) = ⊤
IsConst (term.Var k) = ⊥

-- An argument fits a need: it is of the kind needed, and where constants are needed, no variable stands in it.
unfoldable pub FitsNeed : Need → Arg → Type 0
FitsNeed need.IntConst (arg.Int t) = IsConst t
FitsNeed need.IntTerm (arg.Int t) = ⊤
FitsNeed need.BoolTerm (arg.Bool t) = ⊤
FitsNeed need.SetConst (arg.Set s) = ⊤
FitsNeed need.IntConsts (arg.Ints ts) = All IsConst ts
FitsNeed need.IntTerms (arg.Ints ts) = ⊤
FitsNeed need.BoolConsts (arg.Bools ts) = All IsConst ts
FitsNeed need.BoolTerms (arg.Bools ts) = ⊤
FitsNeed n a = ⊥

-- each argument fits the need in its place
abbrev pub Fits : List Need → List Arg → Type 0
Fits needs [] = ⊤
Fits [] (a ∷ args) = ⊥
Fits (n ∷ needs) (a ∷ args) = FitsNeed n a × Fits needs args

-- What follows reads an argument by its place and kind. Where no argument of the kind stands there, 0 or an empty list
-- stands for it. Arguments of a name never come to that, which is a law (`ArgumentsAreRead`, `specs/Reading.antt`); what is
-- read of them is said name by name in `specs/Names.antt`.
abbrev pub arg_at : List Arg → ℕ → Arg
arg_at args place = slice_index_or args place (arg.Int (term.Const (pos 0)))

-- the term that is an int or a bool
abbrev pub term_of : Arg → Term
term_of (arg.Int t) = t
term_of (arg.Bool t) = t
term_of a = term.Const (pos 0)

-- the list of ints or bools
abbrev pub terms_of : Arg → List Term
terms_of (arg.Ints ts) = ts
terms_of (arg.Bools ts) = ts
terms_of a = []

-- the set
abbrev pub set_of : Arg → List (ℤ × ℤ)
set_of (arg.Set s) = s
set_of a = []

-- the same of the argument in a place
unfoldable pub term_at : List Arg → ℕ → Term
term_at args place = term_of (arg_at args place)

unfoldable pub terms_at : List Arg → ℕ → List Term
terms_at args place = terms_of (arg_at args place)

unfoldable pub set_at : List Arg → ℕ → List (ℤ × ℤ)
set_at args place = set_of (arg_at args place)

-- the number of a constant
abbrev pub number : Term → ℤ
number (term.Const z) = z
number (term.Var k) = pos 0
