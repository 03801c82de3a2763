-- Bounds strictly beyond a number.
use Rattle.std.specs.Prelude.{List, ℤ, ◌<ℤ◌}
use Rattle.fzn_model.specs.declared.term.Term.{Term}
use Rattle.fzn_model.specs.Bounds.{term_low, term_high}

-- a number is greater than another, or less
abbrev pub IsAbove : ℤ → ℤ → Type 0
IsAbove number z = number <ℤ z

abbrev pub IsBelow : ℤ → ℤ → Type 0
IsBelow number z = z <ℤ number

-- the least value of a term is greater than a number, or its greatest is less
unfoldable pub LowIsAbove : Term → ℤ → List (List ℤ) → Type 0
LowIsAbove t number box = number <ℤ term_low box t

unfoldable pub HighIsBelow : Term → ℤ → List (List ℤ) → Type 0
HighIsBelow t number box = term_high box t <ℤ number
