use Rattle.std.proofs.Common.{◌≡◌, ◌*◌, ◌^◌, drop, pos, ◌+ℤ◌, ◌≤ℤ◌}
use Rattle.fzn_model.specs.Meaning.{amount_at}
use Rattle.cumul_prop.proofs.parts.load.Given as goal

abbrev pub invariant-loop-one : goal.invariant-loop-one
invariant-loop-one l = record {
  told : (l.load +ℤ amount_at (drop l.one-index l.all) l.moment) ≡ amount_at l.all l.moment;
  low : pos 0 ≤ℤ l.load;
  high : l.load ≤ℤ pos (l.one-index * 2 ^ 100);
}
