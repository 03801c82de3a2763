-- The two bounds of a term, and numbers that bound others from one side: the least is at most each, the greatest at least.
use Rattle.std.specs.Prelude.{List, ℤ}
use Rattle.fzn_model.specs.declared.term.Term.{Term}
use Rattle.fzn_model.specs.Bounds.{term_low, term_high}
use Rattle.dom_store.specs.Steps.{IsAtLeast, IsAtMost, LowIs, HighIs}
use Rattle.dom_store.specs.declared.extreme.Extreme.{Extreme}
use Rattle.dom_store.specs.declared.extreme.Extreme.TheVariants as extreme

-- the least for the greatest, and the greatest for the least
abbrev pub opposite : Extreme → Extreme
opposite extreme.Least = extreme.Greatest
opposite extreme.Greatest = extreme.Least

-- the least or the greatest value of a term
unfoldable pub bound_of : Extreme → Term → List (List ℤ) → ℤ
bound_of extreme.Least t box = term_low box t
bound_of extreme.Greatest t box = term_high box t

-- the first number bounds the second
abbrev pub Bounds : Extreme → ℤ → ℤ → Type 0
Bounds extreme.Least = IsAtLeast
Bounds extreme.Greatest = IsAtMost

-- a number bounds the values of a term
abbrev pub BoundsTerm : Extreme → ℤ → Term → List (List ℤ) → Type 0
BoundsTerm extreme.Least number t = LowIs t number
BoundsTerm extreme.Greatest number t = HighIs t number

-- a number that the box gives bounds the values of a term
unfoldable pub IsBounded : Extreme → (List (List ℤ) → ℤ) → Term → List (List ℤ) → Type 0
IsBounded e f t box = Bounds e (f box) (bound_of e t box)
