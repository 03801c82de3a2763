use Rattle.table_prop.proofs.Marking.{marks_set}
use Rattle.table_prop.proofs.marks.mark.Goals as goal

pub returns : goal.returns
returns c =
    marks_set c.args.values.now c.args.low.now c.args.high.now c.args.count c.args.at c.steps_above.result c.args.marks.now c.requires.at c.requires.count (c.is_between.ensures.0 c.if-not-is_between.false) c.steps_above.ensures c.requires.marks
