use Rattle.std.proofs.Common.{◌≡◌, ◌*◌, ◌≤◌, drop, ◌+ℤ◌}
use Rattle.std.specs.Prelude.{unsigned_abs}
use Rattle.fzn_model.specs.Values.{largest}
use Rattle.fzn_model.specs.Bounds.{scaled_low, scaled_high, sum_of}
use Rattle.rest_basic.specs.Forms.{fixed_product}
use Rattle.rest_basic.proofs.lin.sums_of.Given as goal

abbrev pub invariant-loop-term : goal.invariant-loop-term
invariant-loop-term g l = record {
  low : (l.low +ℤ sum_of (scaled_low (g.V.BoxView.shape l.view)) (drop l.term-index l.terms)) ≡ sum_of (scaled_low (g.V.BoxView.shape l.view)) l.terms;
  high : (l.high +ℤ sum_of (scaled_high (g.V.BoxView.shape l.view)) (drop l.term-index l.terms)) ≡ sum_of (scaled_high (g.V.BoxView.shape l.view)) l.terms;
  fixed : (l.fixed +ℤ sum_of (fixed_product (g.V.BoxView.shape l.view)) (drop l.term-index l.terms)) ≡ sum_of (fixed_product (g.V.BoxView.shape l.view)) l.terms;
  small_low : unsigned_abs l.low ≤ largest * largest * l.term-index;
  small_high : unsigned_abs l.high ≤ largest * largest * l.term-index;
  small_fixed : unsigned_abs l.fixed ≤ largest * largest * l.term-index;
}
