use Rattle.std.proofs.Common.{◌≡◌, ◌*◌, ◌^◌, drop, pos, ◌+ℤ◌, ◌≤ℤ◌}
use Rattle.fzn_model.specs.Meaning.{amount_at}
use Rattle.rest_key.proofs.used.sum_at.Given as goal

abbrev pub invariant-loop-part : goal.invariant-loop-part
invariant-loop-part l = record {
  told : (l.amount +ℤ amount_at (drop l.part-index l.used) l.moment) ≡ amount_at l.used l.moment;
  low : pos 0 ≤ℤ l.amount;
  high : l.amount ≤ℤ pos (l.part-index * 2 ^ 100);
}
