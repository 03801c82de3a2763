use Rattle.std.proofs.Common.{◌≡◌, take, map}
use Rattle.rest_global.specs.Projection.{rest_term}
use Rattle.rest_global.specs.Renamed.{task_by}
use Rattle.rest_global.proofs.renamed.rest_tasks.Given as goal

abbrev pub invariant-loop-task : goal.invariant-loop-task
invariant-loop-task g l = l.renamed.items ≡ map (task_by (rest_term (g.V.BoxView.shape l.view))) (take l.task-index l.tasks)
