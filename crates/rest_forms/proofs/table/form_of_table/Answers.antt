use Rattle.rest_forms.proofs.FullTables.{rows_over}
use Rattle.rest_forms.proofs.table.form_of_table.Goals as goal

pub form_left-requires-clause-rows : goal.form_left-requires-clause-rows
form_left-requires-clause-rows g c = rows_over (g.V.BoxView.shape c.args.view.now) c.args.xs.now c.in_ok-members.members c.args.rows.now c.in_ok-left.left.keys c.in_ok-members.ensures c.in_ok-left.ensures
