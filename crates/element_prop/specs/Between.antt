-- A term that has to lie between two numbers.
use Rattle.std.specs.Prelude.{List, ℤ, ◌≤ℤ◌}
use Rattle.fzn_model.specs.declared.term.Term.{Term}
use Rattle.fzn_model.specs.declared.con.Con.TheVariants as con
use Rattle.fzn_model.specs.Meaning.{val, Holds}
use Rattle.fzn_model.specs.Boxes.{InBox}
use Rattle.dom_store.specs.Narrowing.{HasNone}

-- the value of the term lies between the numbers, or at one of them
unfoldable pub LiesBetween : Term → ℤ → ℤ → List ℤ → Type 0
LiesBetween t low high θ = (low ≤ℤ val t θ) × (val t θ ≤ℤ high)

-- no value of the term does
unfoldable pub LiesNever : List (List ℤ) → Term → ℤ → ℤ → Type 0
LiesNever box t low high = HasNone (LiesBetween t low high) box

-- each assignment of the box with the constraint has the term between the numbers
unfoldable pub Bounded : List (List ℤ) → Term → List Term → Term → Term → ℤ → ℤ → Type 0
Bounded box i xs c t low high = (θ : List ℤ) → InBox box θ → Holds (con.Element i xs c) θ → LiesBetween t low high θ
