use Rattle.rest_forms.proofs.NumberSets.{had_between}
use Rattle.rest_forms.proofs.numbers.had_between.Goals as goal

pub loop-number-init : goal.loop-number-init
loop-number-init g c =
    rw (c.new-had.ensures.items, c.into_iter-number-iterator.ensures.into_iter_gives, c.between-number-items.ensures)
    (had_between (g.V.BoxView.shape c.args.view.now) c.args.x c.args.numbers.now c.args.low.now c.args.high.now c.requires.values c.requires.low c.requires.high)
