use Rattle.std.proofs.Common.{◌++◌}
use Rattle.rest_forms.proofs.NumberSets.{clash, clash_more, same_more}
use Rattle.rest_forms.proofs.numbers.clash_with.Goals as goal

pub loop-number-preserved : goal.loop-number-preserved
loop-number-preserved c = record {
  told = clash_more (clash c.args.list.now c.args.numbers.now.keys) c.args.list.now c.loop-number.numbers.keys c.insert.new.numbers.keys c.loop-number.number-index _ c.in_ok-insert.field-0 c.loop-number.invariant.told c.loop-number-test.true c.in_ok-insert.ensures.new c.if-not-branch.false c.in_ok-insert.ensures.has;
  has = same_more (c.args.list.now ++ c.args.numbers.now.keys) c.args.list.now c.loop-number.numbers.keys c.insert.new.numbers.keys c.loop-number.number-index _ c.loop-number.invariant.has c.loop-number-test.true c.in_ok-insert.ensures.has;
}
