-- A sum, or its negative: that a sum is at least a number is that its negative is at most the number's negative.
use Rattle.std.specs.Prelude.{List, map, Bool, true, false, ℤ, neg_ℤ}
use Rattle.fzn_model.specs.declared.term.Term.{Term}

-- a coefficient with its term, or negated
abbrev pub signed : Bool → ℤ × Term → ℤ × Term
signed false p = p
signed true p = (neg_ℤ p.0, p.1)

-- all terms of a sum, or of its negative
unfoldable pub signed_all : Bool → List (ℤ × Term) → List (ℤ × Term)
signed_all on ts = map (signed on) ts
