use Rattle.prop_engine.proofs.Noting.{tasks_more, tasks_all}
use Rattle.prop_engine.proofs.readers.note_tasks.Goals as goal

pub loop-task-preserved : goal.loop-task-preserved
loop-task-preserved c = tasks_more c.args.at c.loop-task.task-index _ c.args.tasks.now c.args.readers.now c.loop-task.readers c.note_three.new.readers c.loop-task-test.true c.loop-task.invariant c.in_ok-note_three.ensures

pub returns : goal.returns
returns c = tasks_all c.args.at c.loop-task.task-index c.args.tasks.now c.args.readers.now c.loop-task.readers c.loop-task-test.false c.loop-task.invariant
