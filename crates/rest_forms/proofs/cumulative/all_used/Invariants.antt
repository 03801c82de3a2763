use Rattle.std.proofs.Common.{◌≡◌, ◌++◌, take}
use Rattle.std.specs.Prelude.{All}
use Rattle.rest_forms.specs.Sweep.{IsAmount}
use Rattle.rest_forms.specs.Tasks.{fixed_uses}
use Rattle.rest_forms.proofs.cumulative.all_used.Given as goal

abbrev pub invariant-loop-task : goal.invariant-loop-task
invariant-loop-task g l = record {
  value : l.all.items ≡ l.used ++ fixed_uses (g.V.BoxView.shape l.view) (take l.task-index l.tasks);
  amounts : All IsAmount l.all.items;
}
