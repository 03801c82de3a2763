use Rattle.std.proofs.Common.{◌≡◌, ◌*◌, ◌≤◌, drop, ◌+ℤ◌}
use Rattle.std.specs.Prelude.{unsigned_abs}
use Rattle.fzn_model.specs.Bounds.{sum_low, sum_high}
use Rattle.dom_store.specs.Steps.{EachTo}
use Rattle.dom_store.specs.Sums.{RisesWithin}
use Rattle.dom_store.proofs.sums.reach_of.Given as goal

abbrev pub invariant-loop-scaled : goal.invariant-loop-scaled
invariant-loop-scaled l = record {
  least : (l.low +ℤ sum_low l.store.box (drop l.scaled-index l.terms)) ≡ sum_low l.store.box l.terms;
  most : (l.high +ℤ sum_high l.store.box (drop l.scaled-index l.terms)) ≡ sum_high l.store.box l.terms;
  rises : EachTo (RisesWithin l.rise) l.terms l.scaled-index l.store.box;
  small_low : unsigned_abs l.low ≤ 1000000000000 * l.scaled-index;
  small_high : unsigned_abs l.high ≤ 1000000000000 * l.scaled-index;
}
