use Rattle.table_prop.specs.Marks.{AreUnmarked}
use Rattle.table_prop.proofs.marks.clear_marks.Given as goal

abbrev pub invariant-loop-place : goal.invariant-loop-place
invariant-loop-place l = AreUnmarked l.place l.marks
