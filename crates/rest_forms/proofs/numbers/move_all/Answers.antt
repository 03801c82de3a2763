use Rattle.rest_forms.proofs.NumberSets.{moved_more}
use Rattle.rest_forms.proofs.numbers.move_all.Goals as goal

pub loop-number-preserved : goal.loop-number-preserved
loop-number-preserved c = moved_more c.args.numbers.now c.args.from.now.keys c.loop-number.from.keys c.remove.new.numbers.keys c.args.to.now.keys c.loop-number.to.keys c.insert.new.numbers.keys c.loop-number.number-index _ c.loop-number.invariant c.loop-number-test.true c.remove.ensures c.in_ok-_new.ensures.has
