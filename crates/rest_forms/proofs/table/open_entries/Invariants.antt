use Rattle.std.proofs.Common.{◌≡◌, ◌++◌, drop}
use Rattle.rest_forms.specs.Forms.{open_entries}
use Rattle.rest_forms.proofs.table.open_entries.Given as goal

abbrev pub invariant-loop-at : goal.invariant-loop-at
invariant-loop-at g l = l.entries.items ++ open_entries (g.V.BoxView.shape l.view) (drop l.at l.xs) (drop l.at l.row) ≡ open_entries (g.V.BoxView.shape l.view) l.xs l.row
