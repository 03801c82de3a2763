use Rattle.std.proofs.Common.{take}
use Rattle.prop_engine.specs.Readers.{NotesTasks}
use Rattle.prop_engine.proofs.readers.note_tasks.Given as goal

abbrev pub invariant-loop-task : goal.invariant-loop-task
invariant-loop-task l = NotesTasks (take l.task-index l.tasks) l.at l.fn.readers l.readers
