use Rattle.std.proofs.Common.{◌≡◌, ◌-◌, [], length}
use Rattle.std.specs.Prelude.{All}
use Rattle.fzn_model.specs.Limits.{TermIn}
use Rattle.fzn_reader.specs.Search.{one_variable}
use Rattle.fzn_reader.specs.Lists.{ends_list}
use Rattle.fzn_reader.specs.Refusals.{repeat, most}
use Rattle.fzn_reader.proofs.search_variables.variables.Given as goal

abbrev pub invariant-loop-turn : goal.invariant-loop-turn
invariant-loop-turn l = record {
  told : repeat ends_list (one_variable l.draft.names) (67108865 - l._turn) l.vars l.reader ≡ repeat ends_list (one_variable l.draft.names) most [] l.fn.reader;
  kept : All (TermIn (length l.draft.doms)) l.vars;
}
