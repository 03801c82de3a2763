use Rattle.std.proofs.Common.{◌≡◌, ◌-◌}
use Rattle.fzn_reader.specs.Outputs.{one_range}
use Rattle.fzn_reader.specs.Refusals.{repeat, no_comma, next_at, most}
use Rattle.fzn_reader.specs.Invariants.{SetKept}
use Rattle.fzn_reader.proofs.outputs.more_ranges.Given as goal

abbrev pub invariant-loop-turn : goal.invariant-loop-turn
invariant-loop-turn l = record {
  told : repeat no_comma (next_at one_range) (67108865 - l._turn) l.ranges l.reader ≡ repeat no_comma (next_at one_range) most l.fn.ranges l.fn.reader;
  kept : SetKept l.fn.ranges → SetKept l.ranges;
}
