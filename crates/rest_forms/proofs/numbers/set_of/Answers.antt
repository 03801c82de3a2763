use Rattle.rest_forms.proofs.NumberSets.{same_more}
use Rattle.rest_forms.proofs.numbers.set_of.Goals as goal

pub loop-number-preserved : goal.loop-number-preserved
loop-number-preserved c = same_more c.args.list.now c.args.list.now c.loop-number.numbers.keys c.insert.new.numbers.keys c.loop-number.number-index _ c.loop-number.invariant c.loop-number-test.true c.in_ok-_new.ensures.has
