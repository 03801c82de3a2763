use Rattle.std.proofs.Common.{◌≡◌, ◌++◌, drop}
use Rattle.fzn_model.specs.Limits.{IsValue}
use Rattle.fzn_reader.specs.Sets.{runs_from}
use Rattle.fzn_reader.specs.Invariants.{SetKept}
use Rattle.fzn_reader.proofs.sets.runs_from.Given as goal

abbrev pub invariant-loop-number : goal.invariant-loop-number
invariant-loop-number l = record {
  told : l.runs ++ runs_from l.run.0 l.run.1 (drop l.number-index l.numbers) ≡ runs_from l.first l.first l.numbers;
  kept : SetKept l.runs;
  low : IsValue l.run.0;
  high : IsValue l.run.1;
}
