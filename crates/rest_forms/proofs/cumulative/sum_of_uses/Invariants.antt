use Rattle.std.proofs.Common.{◌≡◌, ◌*◌, ◌≤◌, drop, ◌+ℤ◌}
use Rattle.std.specs.Prelude.{unsigned_abs}
use Rattle.fzn_model.specs.Values.{largest}
use Rattle.rest_forms.specs.Forms.{sum_of_uses}
use Rattle.rest_forms.proofs.cumulative.sum_of_uses.Given as goal

abbrev pub invariant-loop-task : goal.invariant-loop-task
invariant-loop-task g l = record {
  value : (l.sum +ℤ sum_of_uses (g.V.BoxView.shape l.view) (drop l.task-index l.tasks)) ≡ sum_of_uses (g.V.BoxView.shape l.view) l.tasks;
  small : unsigned_abs l.sum ≤ largest * l.task-index;
}
