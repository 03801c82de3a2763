use Rattle.std.proofs.Common.{◌≡◌, ◌-◌, ◌+◌, ◌*◌}
use Rattle.fzn_reader.specs.Annotations.{annexpr_at, passing}
use Rattle.fzn_reader.specs.Refusals.{repeat, no_comma, next_at, most}
use Rattle.fzn_reader.proofs.annotations.+annotations.Given as goal

abbrev pub decreases-group : goal.decreases-group
decreases-group l = 6 * l.levels

abbrev pub decreases-named_ann : goal.decreases-named_ann
decreases-named_ann l = 6 * l.levels + 1

abbrev pub decreases-annexpr : goal.decreases-annexpr
decreases-annexpr l = 6 * l.levels + 2

abbrev pub decreases-next_member : goal.decreases-next_member
decreases-next_member l = 6 * l.levels + 3

abbrev pub decreases-more_members : goal.decreases-more_members
decreases-more_members l = 6 * l.levels + 4

abbrev pub decreases-members : goal.decreases-members
decreases-members l = 6 * l.levels + 5

abbrev pub invariant-more_members-loop-turn : goal.invariant-more_members-loop-turn
invariant-more_members-loop-turn l = repeat no_comma (next_at (passing (annexpr_at l.levels))) (67108865 - l._turn) tt l.reader ≡ repeat no_comma (next_at (passing (annexpr_at l.levels))) most tt l.fn.reader
