use Rattle.std.proofs.Common.{◌+◌, Vec, Global, ℕ, sym, subst, ◌∙◌}
use Rattle.std.proofs.lemmas.Bool.{false≢true}
use Rattle.table_prop.specs.Rows.{ArePossible}
use Rattle.table_prop.proofs.Finding.{possible_row, possible_can, possible_more, possible_less}
use Rattle.table_prop.proofs.rows.find_rows.Goals.{then-can_have_row+in_ok-push, else-can_have_row}
use Rattle.table_prop.proofs.rows.find_rows.Goals as goal

pub loop-row-preserved : goal.loop-row-preserved
loop-row-preserved c =
    let box = c.args.store.now.box in
    let xs = c.args.columns.now in
    let rows = c.args.rows.now in
    let row = c.loop-row.row in
    elim c.if-can_have_row.branch [
      | then-can_have_row+in_ok-push w ↦
          let more = possible_more box xs rows row c.loop-row.found.items (possible_row box xs rows row c.loop-row-test.true (c.can_have_row.ensures.0 w.if-can_have_row.true)) c.loop-row.invariant in
          subst (λ (v : Vec ℕ Global). ArePossible box xs rows (row + 1) v.items) (sym w.found-is) (subst (ArePossible box xs rows (row + 1)) (sym w.in_ok-push.ensures.items) more)
      | else-can_have_row w ↦
          let less = possible_less box xs rows row c.loop-row.found.items (λ is. false≢true (sym w.if-can_have_row.false ∙ c.can_have_row.ensures.1 (possible_can box xs rows row is))) c.loop-row.invariant in
          subst (λ (v : Vec ℕ Global). ArePossible box xs rows (row + 1) v.items) (sym w.found-is) less
    ]
