-- Where a domain is cut, and that both sides have an assignment.
use Rattle.std.proofs.Common.{◌≡◌, ℕ, ◌<◌, List, [], length, map, slice_index_or, refl, sym, subst, ◌∙◌, arith, ℤ, pos, negsuc, ◌+ℤ◌, ◌*ℤ◌, ◌≤ℤ◌, ◌<ℤ◌}
use Rattle.std.specs.Prelude.{Contains}
use Rattle.std.specs.Int.{int_div_euclid}
use Rattle.std.proofs.lemmas.Int.{ints}
use Rattle.std.proofs.lemmas.List.{get_or-map, length-map}
use Rattle.fzn_model.specs.declared.term.Term.TheVariants as term
use Rattle.fzn_model.specs.declared.pick.ValAt.{ValAt}
use Rattle.fzn_model.specs.declared.pick.ValAt.TheVariants as rule
use Rattle.fzn_model.specs.Boxes.{IsBox, InBox, domain_at, low_value, high_value}
use Rattle.fzn_model.proofs.Domains.{low_in, high_in}
use Rattle.brancher.specs.declared.cut.Cut.{Cut}
use Rattle.brancher.specs.Branching.{IsOpen, IsMiddle, IsPlace, HasSides}
use Rattle.brancher.proofs.Values.{low_is_value, high_is_value, value_between}

pub middle_is : (low high : ℤ) → IsMiddle low high (int_div_euclid (low +ℤ high) (pos 2))
unfolding IsMiddle
middle_is low high = halved (low +ℤ high)
  where
    halved : (s : ℤ) → ((pos 2 *ℤ int_div_euclid s (pos 2)) ≤ℤ s) × (s <ℤ (pos 2 *ℤ int_div_euclid s (pos 2) +ℤ pos 2))
    halved (pos a) = (omega (arith, ints), omega (arith, ints))
    halved (negsuc a) = (omega (arith, ints), omega (arith, ints))

-- a place lies from the least value to below the greatest
pub from_low : (box : List (List ℤ)) (k : ℕ) (by : ValAt) (at : ℤ) → IsPlace box k by at → IsOpen box (term.Var k) → low_value (domain_at box k) ≤ℤ at
unfolding IsMiddle
from_low box k rule.Min at place apart = omega (arith, ints)
from_low box k rule.Max at place apart = omega (arith, ints)
from_low box k rule.Split at place apart = omega (arith, ints)

pub to_high : (box : List (List ℤ)) (k : ℕ) (by : ValAt) (at : ℤ) → IsPlace box k by at → IsOpen box (term.Var k) → at <ℤ high_value (domain_at box k)
unfolding IsMiddle
to_high box k rule.Min at place apart = omega (arith, ints)
to_high box k rule.Max at place apart = omega (arith, ints)
to_high box k rule.Split at place apart = omega (arith, ints)

-- the least values are an assignment, and so are the greatest
pub lows_in : (box : List (List ℤ)) → IsBox box → InBox box (map low_value box)
lows_in box well_formed = record {
  count = length-map box low_value;
  each = λ k h. subst (Contains (domain_at box k)) (sym (get_or-map low_value box k [] (pos 0) h)) (low_in (domain_at box k) (well_formed k [] h));
}

highs_in : (box : List (List ℤ)) → IsBox box → InBox box (map high_value box)
highs_in box well_formed = record {
  count = length-map box high_value;
  each = λ k h. subst (Contains (domain_at box k)) (sym (get_or-map high_value box k [] (pos 0) h)) (high_in (domain_at box k) (well_formed k [] h));
}

pub sides : (box : List (List ℤ)) (k : ℕ) (by : ValAt) (cut : Cut) → IsBox box → k < length box → IsOpen box (term.Var k) → IsPlace box k by cut.at → cut.var ≡ k → HasSides box cut
sides box k by cut well_formed inside apart place same =
    let low = from_low box k by cut.at place apart in
    let high = to_high box k by cut.at place apart in
    let within : cut.var < length box = subst (λ j. j < length box) (sym same) inside in
    let low_at : slice_index_or (map low_value box) cut.var (pos 0) ≡ low_value (domain_at box k) = get_or-map low_value box cut.var [] (pos 0) within ∙ subst (λ j. low_value (domain_at box j) ≡ low_value (domain_at box k)) (sym same) refl in
    let high_at : slice_index_or (map high_value box) cut.var (pos 0) ≡ high_value (domain_at box k) = get_or-map high_value box cut.var [] (pos 0) within ∙ subst (λ j. high_value (domain_at box j) ≡ high_value (domain_at box k)) (sym same) refl in
    record {
      within = within;
      value = value_between (low_value (domain_at box k)) cut.at (high_value (domain_at box k)) (low_is_value box k well_formed inside) (high_is_value box k well_formed inside) low (omega (arith, ints, high));
      below = (map low_value box, lows_in box well_formed, omega (arith, ints, low, low_at));
      above = (map high_value box, highs_in box well_formed, omega (arith, ints, high, high_at));
    }
