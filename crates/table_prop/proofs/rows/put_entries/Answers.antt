use Rattle.table_prop.proofs.Finding.{entries_more, pushed}
use Rattle.table_prop.proofs.rows.put_entries.Goals as goal

pub loop-row-preserved : goal.loop-row-preserved
loop-row-preserved c =
    entries_more c.args.rows.now c.args.width c.args.column c.loop-row.row-index c.args.found.now c.loop-row.entries.items c.add_entry.new.entries.items c.loop-row-test.true c.loop-row.invariant
    (pushed _ _ _ c.in_ok-add_entry.ensures)
