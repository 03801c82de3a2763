-- The opposite of a linear relation: it holds exactly where the relation doesn't. It is this project's own.
use Rattle.std.specs.Prelude.{List, map, ℤ, pos, neg_ℤ, ◌-ℤ◌}
use Rattle.fzn_model.specs.declared.term.Term.{Term}
use Rattle.fzn_model.specs.declared.lin.Rel.{Rel}
use Rattle.fzn_model.specs.declared.lin.Rel.TheVariants as rel
use Rattle.fzn_model.specs.declared.lin.Lin.{Lin}

-- a coefficient with its sign negated, beside its term
unfoldable pub negated_one : ℤ × Term → ℤ × Term
negated_one p = (neg_ℤ p.0, p.1)

-- the negative of a sum
abbrev pub negated : List (ℤ × Term) → List (ℤ × Term)
negated ps = map negated_one ps

-- Greater than a number is: the negative at most the negative of the number, less 1.
abbrev pub opposite_of : Rel → List (ℤ × Term) → ℤ → Lin
opposite_of rel.Le ps r = record { rel = rel.Le; terms = negated ps; r = neg_ℤ r -ℤ pos 1 }
opposite_of rel.Eq ps r = record { rel = rel.Ne; terms = ps; r = r }
opposite_of rel.Ne ps r = record { rel = rel.Eq; terms = ps; r = r }

unfoldable pub opposite : Lin → Lin
opposite l = opposite_of l.rel l.terms l.r
