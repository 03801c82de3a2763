use Rattle.std.proofs.Common.{◌≡◌, take, map}
use Rattle.fzn_model.specs.Bounds.{term_low}
use Rattle.alldiff_prop.proofs.spans.lows_by_member.Given as goal

abbrev pub invariant-loop-term : goal.invariant-loop-term
invariant-loop-term l = l.lows.items ≡ map (term_low l.store.box) (take l.term-index l.members)
