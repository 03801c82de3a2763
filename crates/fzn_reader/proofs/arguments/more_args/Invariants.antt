use Rattle.std.proofs.Common.{◌≡◌, ◌-◌, ◌+◌, ◌≤◌, length}
use Rattle.fzn_builtin.specs.Builtins.{needs_of}
use Rattle.fzn_reader.specs.Constraints.{one_arg}
use Rattle.fzn_reader.specs.Refusals.{repeat, no_comma, next_at, most}
use Rattle.fzn_reader.specs.Invariants.{ArgsKept}
use Rattle.fzn_reader.proofs.arguments.more_args.Given as goal

abbrev pub invariant-loop-turn : goal.invariant-loop-turn
invariant-loop-turn l = record {
  told : repeat no_comma (next_at (one_arg l.builtin l.draft.names)) (67108865 - l._turn) (l.args, l.used) l.reader ≡ repeat no_comma (next_at (one_arg l.builtin l.draft.names)) most (l.fn.args, l.fn.used) l.fn.reader;
  kept : ArgsKept l.draft.doms (needs_of l.builtin) (l.args, l.used);
  few : length l.args ≤ l._turn + 1;
}
