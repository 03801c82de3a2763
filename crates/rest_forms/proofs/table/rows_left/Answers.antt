use Rattle.std.proofs.Common.{arith}
use Rattle.rest_forms.proofs.RowsLeft.{rows_more, rows_all}
use Rattle.rest_forms.proofs.table.rows_left.Goals as goal

pub loop-k-preserved : goal.loop-k-preserved
loop-k-preserved g c = rows_more (g.V.BoxView.shape c.args.view.now) c.args.xs.now c.args.rows.now c.loop-k.left.keys c.add_row.new.rows.keys c.loop-k.k c.loop-k.invariant c.in_ok-add_row.ensures

pub returns : goal.returns
returns g c = rows_all (g.V.BoxView.shape c.args.view.now) c.args.xs.now c.args.rows.now c.loop-k.left.keys c.loop-k.k c.loop-k.invariant (omega arith) (omega arith)
