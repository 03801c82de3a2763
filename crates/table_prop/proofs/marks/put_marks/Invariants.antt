use Rattle.std.proofs.Common.{take}
use Rattle.table_prop.specs.Marks.{AreMarks}
use Rattle.table_prop.proofs.marks.put_marks.Given as goal

abbrev pub invariant-loop-at : goal.invariant-loop-at
invariant-loop-at l = AreMarks (take l.at l.values) l.low l.count l.marks
