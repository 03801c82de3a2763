use Rattle.std.proofs.Common.{length, ◌/◌, sym, subst}
use Rattle.table_prop.specs.Rows.{ArePossible}
use Rattle.table_prop.proofs.Finding.{chosen_from}
use Rattle.table_prop.proofs.Supporting.{ready_first, table_says}
use Rattle.table_prop.proofs.pass_table.pass_table.Goals as goal

pub narrow_columns-requires-clause-chosen : goal.narrow_columns-requires-clause-chosen
narrow_columns-requires-clause-chosen c =
    let box = c.args.store.now.box in
    let xs = c.args.columns.now in
    let rows = c.args.rows.now in
    chosen_from box xs rows c.as_slice.result.now (ready_first box xs rows c.recall_domains.ensures.domains c.requires) (subst (ArePossible box xs rows (length rows / length xs)) (sym c.as_slice.ensures.value) c.in_ok-find_rows.ensures)

pub returns-clause-means : goal.returns-clause-means
returns-clause-means c =
    let box = c.args.store.now.box in
    let xs = c.args.columns.now in
    let rows = c.args.rows.now in
    table_says xs rows c.as_slice.result.now (length rows / length xs) c.args.store.now c.narrow_columns.new.store c.narrow_columns.result (ready_first box xs rows c.recall_domains.ensures.domains c.requires) (subst (ArePossible box xs rows (length rows / length xs)) (sym c.as_slice.ensures.value) c.in_ok-find_rows.ensures) c.narrow_columns.ensures.steps
