use Rattle.std.proofs.Common.{◌≡◌, ◌*◌, ◌^◌, ◌≤◌, drop, ◌+ℤ◌}
use Rattle.std.specs.Prelude.{unsigned_abs}
use Rattle.fzn_model.specs.Meaning.{lin_sum}
use Rattle.fzn_model.proofs.lin.sum_of.Given as goal

abbrev pub invariant-loop-term : goal.invariant-loop-term
invariant-loop-term l = record {
  told : (l.sum +ℤ lin_sum (drop l.term-index l.terms) l.values) ≡ lin_sum l.terms l.values;
  small : unsigned_abs l.sum ≤ 1000000000 * 2 ^ 63 * l.term-index;
}
