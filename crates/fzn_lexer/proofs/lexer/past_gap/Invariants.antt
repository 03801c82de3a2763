use Rattle.std.proofs.Common.{length, ◌-◌, ◌≡◌, ◌≤◌, ◌+◌, drop}
use Rattle.fzn_lexer.specs.Passes.{spots_from}
use Rattle.fzn_lexer.proofs.lexer.past_gap.Given as goal

abbrev pub invariant-loop-at : goal.invariant-loop-at
invariant-loop-at l = record {
  same : spots_from 0 l.line l.at (drop l.at l.bytes) ≡ spots_from 0 l.fn.line l.fn.at (drop l.fn.at l.bytes);
  within : l.at ≤ length l.bytes;
  lines : l.line ≤ l.at + 1;
}

abbrev pub decreases-loop-at : goal.decreases-loop-at
decreases-loop-at l = length l.bytes - l.at
