-- The constraint that each row of the table makes of its arguments (MiniZinc Handbook, FlatZinc built-ins). This project's
-- own are `bool_xor` with two arguments, which says that they differ, and that the greatest and the least of an empty list
-- are refused.
use Rattle.std.specs.Prelude.{◌≡◌, ℕ, ◌==◌, ◌%◌, ◌&&◌, true, false, if◌then◌else◌, List, [], ◌∷◌, map, length, ℤ, pos, negsuc, Option, Some, None, option_map, IsSome, Result, Ok, Err}
use Rattle.std.specs.List.{zip}
use Rattle.fzn_model.specs.declared.term.Term.{Term}
use Rattle.fzn_model.specs.declared.lin.Rel.{Rel}
use Rattle.fzn_model.specs.declared.lin.Rel.TheVariants as rel
use Rattle.fzn_model.specs.declared.base.Base.{Base}
use Rattle.fzn_model.specs.declared.base.Base.TheVariants as base
use Rattle.fzn_model.specs.declared.cumulative.CumTask.{CumTask}
use Rattle.fzn_model.specs.declared.con.Con.{Con}
use Rattle.fzn_model.specs.declared.con.Con.TheVariants as con
use Rattle.fzn_builtin.specs.declared.arg.Arg.{Arg}
use Rattle.fzn_builtin.specs.declared.fault.BuildFault.{BuildFault}
use Rattle.fzn_builtin.specs.declared.fault.BuildFault.TheVariants as fault
use Rattle.fzn_builtin.specs.declared.shape.Relation.{Relation}
use Rattle.fzn_builtin.specs.declared.shape.Relation.TheVariants as relation
use Rattle.fzn_builtin.specs.declared.shape.Shape.{Shape}
use Rattle.fzn_builtin.specs.declared.shape.Shape.TheVariants as shape
use Rattle.fzn_builtin.specs.Arguments.{number, term_at, terms_at, set_at}

-- the sum of coefficient times term stands so to r
unfoldable pub linear : Rel → List (ℤ × Term) → ℤ → Base
linear rel parts r = base.Lin (record { rel = rel; terms = parts; r = r })

-- the terms of a - b, and of a + b - c
abbrev pub difference : Term → Term → List (ℤ × Term)
difference a b = (pos 1, a) ∷ (negsuc 0, b) ∷ []

abbrev pub balance : Term → Term → Term → List (ℤ × Term)
balance a b c = (pos 1, a) ∷ (pos 1, b) ∷ (negsuc 0, c) ∷ []

-- each term with its coefficient; none where there are more of the one than of the other
abbrev pub weighed : Term × Term → ℤ × Term
weighed part = (number part.0, part.1)

unfoldable pub sum : Rel → List Term → List Term → ℤ → Option Base
sum rel factors terms r = if length factors == length terms then Some (linear rel (map weighed (zip factors terms)) r) else None

-- a positive literal is true, or a negative one false
unfoldable pub clause : List Term → List Term → Base
clause positive negative = base.Clause (record { pos = positive; neg = negative })

-- the term is in the set
unfoldable pub member : Term → List (ℤ × ℤ) → Base
member x set = base.Member (record { x = x; set = set })

-- r is true exactly where all literals are: exactly where r is false, one is false
abbrev pub all_true : List Term → Term → Con
all_true literals r = con.Reif (clause [] literals) r false

-- r is true exactly where some literal is
abbrev pub any_true : List Term → Term → Con
any_true literals r = con.Reif (clause literals []) r true

-- m is the greatest, or the least, of the terms, of which there is one at least; else none
unfoldable pub greatest : Term → List Term → Option Con
greatest m [] = None
greatest m (x ∷ xs) = Some (con.Greatest m (x ∷ xs))

unfoldable pub least : Term → List Term → Option Con
least m [] = None
least m (x ∷ xs) = Some (con.Least m (x ∷ xs))

-- a task for each start, length and use; none where there are more of one than of another
abbrev pub task : (Term × Term) × Term → CumTask
task t = record { s = t.0.0; d = t.0.1; r = t.1 }

unfoldable pub cumulative : List Term → List Term → List Term → Term → Option Con
cumulative starts lengths uses capacity =
    if (length starts == length lengths) && (length starts == length uses) then Some (con.CumulUsed (map task (zip (zip starts lengths) uses)) [] capacity) else None

-- whole rows of one number for each of the terms, of which there is one at least; else none
unfoldable pub rows : List Term → List Term → Option Con
rows [] numbers = None
rows (x ∷ xs) numbers =
    if length numbers % length (x ∷ xs) == 0 then Some (con.Table (x ∷ xs) (map number numbers)) else None

-- the relation of the arguments; none where the table refuses their lengths
abbrev pub relation_of : Relation → List Arg → Option Base
relation_of (relation.Difference rel) args = Some (linear rel (difference (term_at args 0) (term_at args 1)) (pos 0))
relation_of relation.Below args = Some (linear rel.Le (difference (term_at args 0) (term_at args 1)) (negsuc 0))
relation_of (relation.Sum rel) args = sum rel (terms_at args 0) (terms_at args 1) (number (term_at args 2))
relation_of relation.Disjunction args = Some (clause (terms_at args 0) (terms_at args 1))
relation_of relation.InSet args = Some (member (term_at args 0) (set_at args 1))

-- how many arguments the relation has, behind which stands the bool that tells whether it holds
abbrev pub count : Relation → ℕ
count (relation.Difference rel) = 2
count relation.Below = 2
count (relation.Sum rel) = 3
count relation.Disjunction = 2
count relation.InSet = 2

-- two bools differ; where there is a third, exactly where it is true
abbrev pub differing : List Arg → Con
differing args =
    let base : Base = linear rel.Ne (difference (term_at args 0) (term_at args 1)) (pos 0) in
    if length args == 2 then con.Base base else con.Reif base (term_at args 2) true

-- The constraint of the arguments; none where the table refuses their lengths.
abbrev pub constraint_of : Shape → List Arg → Option Con
constraint_of (shape.Posted r) args = option_map con.Base (relation_of r args)
constraint_of (shape.Reified r) args = option_map (λ b. con.Reif b (term_at args (count r)) true) (relation_of r args)
constraint_of shape.Xor args = Some (differing args)
constraint_of shape.BothTrue args = Some (all_true (term_at args 0 ∷ term_at args 1 ∷ []) (term_at args 2))
constraint_of shape.EitherTrue args = Some (any_true (term_at args 0 ∷ term_at args 1 ∷ []) (term_at args 2))
constraint_of shape.AllTrue args = Some (all_true (terms_at args 0) (term_at args 1))
constraint_of shape.AnyTrue args = Some (any_true (terms_at args 0) (term_at args 1))
constraint_of shape.Plus args = Some (con.Base (linear rel.Eq (balance (term_at args 0) (term_at args 1) (term_at args 2)) (pos 0)))
constraint_of shape.Times args = Some (con.Times (term_at args 0) (term_at args 1) (term_at args 2))
constraint_of shape.Quotient args = Some (con.Div (term_at args 0) (term_at args 1) (term_at args 2))
constraint_of shape.Remainder args = Some (con.Mod (term_at args 0) (term_at args 1) (term_at args 2))
constraint_of shape.Absolute args = Some (con.Abs (term_at args 0) (term_at args 1))
constraint_of shape.Larger args = Some (con.Greatest (term_at args 2) (term_at args 0 ∷ term_at args 1 ∷ []))
constraint_of shape.Smaller args = Some (con.Least (term_at args 2) (term_at args 0 ∷ term_at args 1 ∷ []))
constraint_of shape.Largest args = greatest (term_at args 0) (terms_at args 1)
constraint_of shape.Smallest args = least (term_at args 0) (terms_at args 1)
constraint_of shape.Element args = Some (con.Element (term_at args 0) (terms_at args 1) (term_at args 2))
constraint_of shape.Different args = Some (con.AllDiffExcept (terms_at args 0) [])
constraint_of shape.Cumulative args = cumulative (terms_at args 0) (terms_at args 1) (terms_at args 2) (term_at args 3)
constraint_of shape.Rows args = rows (terms_at args 0) (terms_at args 1)

-- The answer: the constraint that there is; `Lengths` exactly where there is none; else there was no memory.
abbrev pub Builds : {T : Type 0} → Result T BuildFault → Option T → Type 0
Builds (Ok x) built = built ≡ Some x
Builds (Err fault.Lengths) built = built ≡ None
Builds (Err fault.NoMemory) built = IsSome built
