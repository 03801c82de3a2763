-- The bounds of a variable.
use Rattle.std.proofs.Common.{ℕ, ◌<◌, ◌≤◌, ◌*◌, ◌+◌, List, [], length, arith, ℤ, pos, negsuc, ◌≤ℤ◌}
use Rattle.std.proofs.lemmas.Int.{ints}
use Rattle.fzn_model.specs.declared.term.Term.TheVariants as term
use Rattle.fzn_model.specs.Values.{largest}
use Rattle.fzn_model.specs.Limits.{IsValue}
use Rattle.fzn_model.specs.Boxes.{IsBox, domain_at, low_value, high_value}
use Rattle.fzn_model.proofs.Terms.{has_value, has_low, has_high, low_to_high}
use Rattle.fzn_model.proofs.Domains.{few_values}

pub low_is_value : (box : List (List ℤ)) (k : ℕ) → IsBox box → k < length box → IsValue (low_value (domain_at box k))
low_is_value box k well_formed inside = has_value box (term.Var k) _ well_formed inside (has_low box (term.Var k) well_formed inside)

pub high_is_value : (box : List (List ℤ)) (k : ℕ) → IsBox box → k < length box → IsValue (high_value (domain_at box k))
high_is_value box k well_formed inside = has_value box (term.Var k) _ well_formed inside (has_high box (term.Var k) well_formed inside)

pub ordered : (box : List (List ℤ)) (k : ℕ) → IsBox box → k < length box → low_value (domain_at box k) ≤ℤ high_value (domain_at box k)
ordered box k well_formed inside = low_to_high box (term.Var k) well_formed inside

-- a variable has at most as many values as there are
pub few : (box : List (List ℤ)) (k : ℕ) → IsBox box → k < length box → length (domain_at box k) ≤ 2 * largest + 1
few box k well_formed inside = few_values (domain_at box k) (well_formed k [] inside)

pub value_between : (low z high : ℤ) → IsValue low → IsValue high → low ≤ℤ z → z ≤ℤ high → IsValue z
value_between low (pos n) (pos m) l h from to = omega (arith, ints)
value_between low (pos n) (negsuc m) l h from to = absurd (omega (arith, ints))
value_between (negsuc m) (negsuc n) high l h from to = omega (arith, ints)
value_between (pos m) (negsuc n) high l h from to = absurd (omega (arith, ints))
