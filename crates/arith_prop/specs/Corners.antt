-- Two ranges of numbers, and the products of their bounds.
use Rattle.std.specs.Prelude.{List, ℤ, ◌*ℤ◌}
use Rattle.std.specs.Int.{int_min, int_max}
use Rattle.fzn_model.specs.declared.term.Term.{Term}
use Rattle.fzn_model.specs.Bounds.{term_low, term_high}
use Rattle.dom_store.specs.declared.extreme.Extreme.{Extreme}
use Rattle.dom_store.specs.declared.extreme.Extreme.TheVariants as extreme
use Rattle.dom_store.specs.Extremes.{IsBounded}

-- all numbers from the least value of a term to its greatest
abbrev pub hull_of : List (List ℤ) → Term → ℤ × ℤ
hull_of box t = (term_low box t, term_high box t)

-- the lesser or the greater of two numbers
abbrev pub pick_by : Extreme → ℤ → ℤ → ℤ
pick_by extreme.Least = int_min
pick_by extreme.Greatest = int_max

-- the least or the greatest of the four products of bounds
unfoldable pub corner : Extreme → ℤ × ℤ → ℤ × ℤ → ℤ
corner e a b = pick_by e (pick_by e (a.0 *ℤ b.0) (a.0 *ℤ b.1)) (pick_by e (a.1 *ℤ b.0) (a.1 *ℤ b.1))

-- the least or the greatest product of the bounds of the factors bounds the result
abbrev pub ProductIsBounded : Extreme → Term → Term → Term → List (List ℤ) → Type 0
ProductIsBounded e a b c = IsBounded e (λ box. corner e (hull_of box a) (hull_of box b)) c
