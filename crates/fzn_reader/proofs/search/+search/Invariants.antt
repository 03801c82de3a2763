use Rattle.std.proofs.Common.{◌≡◌, ◌-◌, ◌+◌, ◌*◌, length}
use Rattle.std.specs.Prelude.{All}
use Rattle.fzn_model.specs.Limits.{PickInLimits}
use Rattle.fzn_reader.specs.Search.{one_pick, picks_at}
use Rattle.fzn_reader.specs.Lists.{ends_list}
use Rattle.fzn_reader.specs.Refusals.{repeat, most}
use Rattle.fzn_reader.proofs.search.+search.Given as goal

abbrev pub decreases-picks : goal.decreases-picks
decreases-picks l = 4 * l.levels

abbrev pub decreases-one_pick : goal.decreases-one_pick
decreases-one_pick l = 4 * l.levels + 1

abbrev pub decreases-all_picks : goal.decreases-all_picks
decreases-all_picks l = 4 * l.levels + 2

abbrev pub decreases-list_picks : goal.decreases-list_picks
decreases-list_picks l = 4 * l.levels + 3

abbrev pub invariant-all_picks-loop-turn : goal.invariant-all_picks-loop-turn
invariant-all_picks-loop-turn l = record {
  told : repeat ends_list (one_pick (picks_at l.levels l.draft.names)) (67108865 - l._turn) l.done l.reader ≡ repeat ends_list (one_pick (picks_at l.levels l.draft.names)) most l.fn.done l.fn.reader;
  kept : All (PickInLimits (length l.draft.doms)) l.fn.done → All (PickInLimits (length l.draft.doms)) l.done;
}
