-- The bounds of all members.
use Rattle.std.specs.Prelude.{◌≡◌, List, map, filter, ℤ, int_le, All, Contains}
use Rattle.fzn_model.specs.declared.term.Term.{Term}
use Rattle.fzn_model.specs.Limits.{IsValue}
use Rattle.fzn_model.specs.Bounds.{term_low, term_high}
use Rattle.dom_store.specs.Strength.{inside_count}
use Rattle.alldiff_prop.specs.Rising.{Climbs, how_many_to}
use Rattle.alldiff_prop.specs.Fulls.{AreBetween}

-- the greatest values of the members whose least value is at least low
abbrev pub highs_of : List (List ℤ) → ℤ → List Term → List ℤ
highs_of box low xs = map (term_high box) (filter (λ x. int_le low (term_low box x)) xs)

-- In order, and as many of them are at most a number as members lie from low to that number.
pub record IsHighs (box : List (List ℤ)) (xs : List Term) (low : ℤ) (highs : List ℤ) : Type 0 where
  pub climbs : Climbs highs
  pub counts : (high : ℤ) → inside_count box low high xs ≡ how_many_to high highs
  pub between : AreBetween low highs

-- the least values of the members
pub record AreLows (box : List (List ℤ)) (xs : List Term) (lows : List ℤ) : Type 0 where
  pub values : All IsValue lows
  pub all : All (λ x. Contains lows (term_low box x)) xs
