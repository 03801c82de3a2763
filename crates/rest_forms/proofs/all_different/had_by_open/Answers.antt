use Rattle.std.proofs.Common.{sym, ap, ◌∙◌}
use Rattle.rest_forms.proofs.TakenLeft.{parted_open, parted_shut}
use Rattle.rest_forms.proofs.all_different.had_by_open.Goals.{then-is_open_in+in_ok-move_had, else-is_open_in}
use Rattle.rest_forms.proofs.all_different.had_by_open.Goals as goal

pub loop-x-preserved : goal.loop-x-preserved
loop-x-preserved g c =
    let box = g.V.BoxView.shape c.args.view.now in
    elim c.if-is_open_in.branch [
      | then-is_open_in+in_ok-move_had w ↦
          rw (ap (λ s. s.keys) w.numbers-is, ap (λ s. s.keys) w.had-is)
          (parted_open box c.args.xs.now c.args.numbers.now.keys c.loop-x.numbers.keys c.loop-x.had.keys w.move_had.new.from.keys w.move_had.new.to.keys c.loop-x.x-index _ c.loop-x.invariant c.loop-x-test.true (sym c.is_open_in.ensures ∙ w.if-is_open_in.true) w.in_ok-move_had.ensures)
      | else-is_open_in w ↦
          rw (ap (λ s. s.keys) w.numbers-is, ap (λ s. s.keys) w.had-is)
          (parted_shut box c.args.xs.now c.args.numbers.now.keys c.loop-x.numbers.keys c.loop-x.had.keys c.loop-x.x-index _ c.loop-x.invariant c.loop-x-test.true (sym c.is_open_in.ensures ∙ w.if-is_open_in.false))
    ]
