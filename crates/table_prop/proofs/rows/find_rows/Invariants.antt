use Rattle.table_prop.specs.Rows.{ArePossible}
use Rattle.table_prop.proofs.rows.find_rows.Given as goal

abbrev pub invariant-loop-row : goal.invariant-loop-row
invariant-loop-row l = ArePossible l.store.box l.columns l.rows l.row l.found.items
