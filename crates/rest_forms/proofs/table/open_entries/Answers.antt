use Rattle.std.proofs.Common.{sym, ap, ◌∙◌}
use Rattle.rest_forms.specs.Forms.{open_entries}
use Rattle.rest_forms.proofs.RowsLeft.{entries_open, entries_shut}
use Rattle.rest_forms.proofs.table.open_entries.Goals.{then-is_open_in+in_ok-push, else-is_open_in}
use Rattle.rest_forms.proofs.table.open_entries.Goals as goal

pub loop-at-preserved : goal.loop-at-preserved
loop-at-preserved g c =
    let box = g.V.BoxView.shape c.args.view.now in
    let all = open_entries box c.args.xs.now c.args.row.now in
    elim c.if-is_open_in.branch [
      | then-is_open_in+in_ok-push w ↦
          rw (ap (λ v. v.items) w.entries-is)
          (entries_open box c.args.xs.now c.args.row.now c.loop-at.entries.items w.push.new.list.items all c.loop-at.at _ _ c.loop-at-test.true c.requires.row c.loop-at.invariant (sym c.is_open_in.ensures ∙ w.if-is_open_in.true) w.in_ok-push.ensures)
      | else-is_open_in w ↦
          rw (ap (λ v. v.items) w.entries-is)
          (entries_shut box c.args.xs.now c.args.row.now c.loop-at.entries.items all c.loop-at.at _ c.loop-at-test.true c.requires.row c.loop-at.invariant (sym c.is_open_in.ensures ∙ w.if-is_open_in.false))
    ]
