use Rattle.std.proofs.Common.{◌≡◌, ◌-◌, []}
use Rattle.fzn_reader.specs.Lists.{ends_list, one_element}
use Rattle.fzn_reader.specs.Refusals.{repeat, most}
use Rattle.fzn_reader.specs.Invariants.{ListInLimits}
use Rattle.fzn_reader.proofs.elements.elements.Given as goal

abbrev pub invariant-loop-turn : goal.invariant-loop-turn
invariant-loop-turn l = record {
  told : repeat ends_list (one_element l.used l.need l.draft.names) (67108865 - l._turn) l.terms l.reader ≡ repeat ends_list (one_element l.used l.need l.draft.names) most [] l.fn.reader;
  kept : ListInLimits l.used l.draft.doms l.need l.terms;
}
