use Rattle.std.proofs.Common.{◌≡◌, drop}
use Rattle.rest_forms.specs.Forms.{is_possible}
use Rattle.rest_forms.proofs.table.is_possible.Given as goal

abbrev pub invariant-loop-at : goal.invariant-loop-at
invariant-loop-at g l = is_possible (g.V.BoxView.shape l.view) (drop l.at l.xs) (drop l.at l.row) ≡ is_possible (g.V.BoxView.shape l.view) l.xs l.row
