use Rattle.std.proofs.Common.{◌≡◌, ◌*◌, ◌^◌, drop, pos, ◌+ℤ◌, ◌≤ℤ◌}
use Rattle.fzn_model.specs.Meaning.{amount_at}
use Rattle.fzn_model.proofs.cumulative.used_load.Given as goal

abbrev pub invariant-loop-part : goal.invariant-loop-part
invariant-loop-part l = record {
  told : (l.load +ℤ amount_at (drop l.part-index l.used) l.t) ≡ amount_at l.used l.t;
  low : pos 0 ≤ℤ l.load;
  high : l.load ≤ℤ pos (l.part-index * 2 ^ 100);
}
