use Rattle.std.proofs.Common.{take}
use Rattle.table_prop.specs.Rows.{AreEntries}
use Rattle.table_prop.proofs.rows.put_entries.Given as goal

abbrev pub invariant-loop-row : goal.invariant-loop-row
invariant-loop-row l = AreEntries l.rows l.width l.column (take l.row-index l.found) l.entries.items
