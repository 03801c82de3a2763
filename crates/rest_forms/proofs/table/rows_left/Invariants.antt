use Rattle.std.proofs.Common.{◌≡◌}
use Rattle.rest_forms.proofs.RowsLeft.{left_below}
use Rattle.rest_forms.proofs.table.rows_left.Given as goal

abbrev pub invariant-loop-k : goal.invariant-loop-k
invariant-loop-k g l = l.left.keys ≡ left_below (g.V.BoxView.shape l.view) l.xs l.rows l.k
