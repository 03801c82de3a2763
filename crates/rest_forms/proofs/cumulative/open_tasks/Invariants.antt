use Rattle.std.proofs.Common.{◌≡◌, take, map}
use Rattle.std.specs.Prelude.{filter}
use Rattle.rest_forms.specs.Forms.{is_open_task, substituted_task}
use Rattle.rest_forms.proofs.cumulative.open_tasks.Given as goal

abbrev pub invariant-loop-task : goal.invariant-loop-task
invariant-loop-task g l = l.left ≡ map (substituted_task (g.V.BoxView.shape l.view)) (filter (is_open_task (g.V.BoxView.shape l.view)) (take l.task-index l.tasks))
