use Rattle.std.proofs.Common.{◌≡◌, ◌*◌, ◌^◌, drop, map, pos, ◌+ℤ◌, ◌≤ℤ◌}
use Rattle.fzn_model.specs.Meaning.{amount_at, usage}
use Rattle.fzn_model.proofs.cumulative.task_load.Given as goal

abbrev pub invariant-loop-task : goal.invariant-loop-task
invariant-loop-task l = record {
  told : (l.load +ℤ amount_at (map (usage l.values) (drop l.task-index l.tasks)) l.t) ≡ amount_at (map (usage l.values) l.tasks) l.t;
  low : pos 0 ≤ℤ l.load;
  high : l.load ≤ℤ pos (l.task-index * 2 ^ 100);
}
