use Rattle.std.proofs.Common.{◌≡◌, ◌-◌}
use Rattle.std.specs.Prelude.{All}
use Rattle.fzn_model.specs.Limits.{IsValue}
use Rattle.fzn_reader.specs.Sets.{one_number}
use Rattle.fzn_reader.specs.Refusals.{repeat, no_comma, next_at, most}
use Rattle.fzn_reader.proofs.sets.more_numbers.Given as goal

abbrev pub invariant-loop-turn : goal.invariant-loop-turn
invariant-loop-turn l = record {
  told : repeat no_comma (next_at one_number) (67108865 - l._turn) l.numbers.keys l.reader ≡ repeat no_comma (next_at one_number) most l.fn.numbers.keys l.fn.reader;
  kept : All IsValue l.fn.numbers.keys → All IsValue l.numbers.keys;
}
