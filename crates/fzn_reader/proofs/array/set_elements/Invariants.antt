use Rattle.std.proofs.Common.{◌≡◌, ◌-◌, ◌+◌, ◌≤◌}
use Rattle.fzn_reader.specs.Lists.{ends_list}
use Rattle.fzn_reader.specs.Items.{one_set}
use Rattle.fzn_reader.specs.Refusals.{repeat, most}
use Rattle.fzn_reader.proofs.array.set_elements.Given as goal

abbrev pub invariant-loop-turn : goal.invariant-loop-turn
invariant-loop-turn l = record {
  told : repeat ends_list (one_set l.used l.draft.names) (67108865 - l._turn) l.count l.reader ≡ repeat ends_list (one_set l.used l.draft.names) most 0 l.fn.reader;
  within : l.used + l.count ≤ 2000000;
}
