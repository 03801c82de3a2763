-- What a division gives, and its arguments, two terms that have one value each.
use Rattle.std.specs.Prelude.{List, ℤ, int_div, int_rem}
use Rattle.fzn_model.specs.declared.term.Term.{Term}
use Rattle.fzn_model.specs.Limits.{IsValue}
use Rattle.fzn_model.specs.Bounds.{IsFixed, IsAt}
use Rattle.arith_prop.specs.declared.division.Part.{Part}
use Rattle.arith_prop.specs.declared.division.Part.TheVariants as part

-- the quotient, rounded towards zero, or what is left
abbrev pub divided : Part → ℤ → ℤ → ℤ
divided part.Quotient = int_div
divided part.Remainder = int_rem

-- the term has this one value
pub record IsOnly (box : List (List ℤ)) (t : Term) (v : ℤ) : Type 0 where
  pub at : IsAt box t v
  pub range : IsValue v

-- the dividend and the divisor have these values
pub record AreOnly (box : List (List ℤ)) (a b : Term) (p : ℤ × ℤ) : Type 0 where
  pub dividend : IsOnly box a p.0
  pub divisor : IsOnly box b p.1

-- the term has more values than one
unfoldable pub IsLoose : List (List ℤ) → Term → Type 0
IsLoose box t = IsFixed box t → ⊥

-- one of two terms has
unfoldable pub AreLoose : List (List ℤ) → Term → Term → Type 0
AreLoose box a b = IsFixed box a → IsFixed box b → ⊥
