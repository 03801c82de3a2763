use Rattle.std.proofs.Common.{◌≡◌, ◌*◌, ◌≤◌, drop, ◌+ℤ◌}
use Rattle.std.specs.Prelude.{unsigned_abs}
use Rattle.fzn_model.specs.Bounds.{sum_low}
use Rattle.lin_prop.specs.Different.{FixedBetween}
use Rattle.lin_prop.proofs.open_terms.stretch_from.Given as goal

abbrev pub invariant-loop-i : goal.invariant-loop-i
invariant-loop-i l = record {
  fixed : FixedBetween l.store.box l.terms l.from l.i;
  total : (l.sum +ℤ sum_low l.store.box (drop l.i l.terms)) ≡ sum_low l.store.box (drop l.from l.terms);
  small : unsigned_abs l.sum ≤ 1000000000000 * l.i;
}
