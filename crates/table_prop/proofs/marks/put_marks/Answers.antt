use Rattle.std.proofs.Common.{arith}
use Rattle.table_prop.proofs.Marking.{marks_none}
use Rattle.table_prop.proofs.marks.put_marks.Goals as goal

pub loop-at-init : goal.loop-at-init
loop-at-init c = marks_none c.args.low.now c.args.count c.clear_marks.new.marks (omega arith) c.clear_marks.ensures
