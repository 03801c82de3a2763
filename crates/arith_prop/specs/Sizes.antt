-- The sizes of the numbers of a range.
use Rattle.std.specs.Prelude.{List, ℤ}
use Rattle.fzn_model.specs.declared.term.Term.{Term}
use Rattle.dom_store.specs.Strength.{sizes_low, sizes_high}
use Rattle.dom_store.specs.declared.extreme.Extreme.{Extreme}
use Rattle.dom_store.specs.declared.extreme.Extreme.TheVariants as extreme
use Rattle.dom_store.specs.Extremes.{IsBounded}
use Rattle.arith_prop.specs.Corners.{hull_of}

-- the least or the greatest of them
unfoldable pub size_of : Extreme → ℤ × ℤ → ℤ
size_of extreme.Least a = sizes_low a.0 a.1
size_of extreme.Greatest a = sizes_high a.0 a.1

-- the least or the greatest size of the numbers between the bounds of the argument bounds the result
abbrev pub SizeIsBounded : Extreme → Term → Term → List (List ℤ) → Type 0
SizeIsBounded e a b = IsBounded e (λ box. size_of e (hull_of box a)) b
