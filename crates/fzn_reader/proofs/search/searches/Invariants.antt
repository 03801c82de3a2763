use Rattle.std.proofs.Common.{◌≡◌, ◌-◌}
use Rattle.fzn_reader.specs.Search.{one_search}
use Rattle.fzn_reader.specs.Lists.{ends_list}
use Rattle.fzn_reader.specs.Refusals.{repeat, most}
use Rattle.fzn_reader.proofs.search.searches.Given as goal

abbrev pub invariant-loop-turn : goal.invariant-loop-turn
invariant-loop-turn l = repeat ends_list one_search (67108865 - l._turn) tt l.reader ≡ repeat ends_list one_search most tt l.fn.reader
