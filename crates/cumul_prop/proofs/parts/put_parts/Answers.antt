use Rattle.std.proofs.Common.{◌<◌, length, rules}
use Rattle.cumul_prop.proofs.Gathering.{kept_task, kept_all, parts_kept, each_gathered}
use Rattle.cumul_prop.proofs.parts.put_parts.Goals as goal

pub loop-task-preserved : goal.loop-task-preserved
loop-task-preserved c =
    let inside : c.loop-task.task-index < length c.args.tasks.now = search rules in
    record {
      kept = kept_task c.args.store.now.box c.args.used.now c.args.tasks.now c.loop-task.kept.items c.add_part.new.kept.items c.compulsory.result c.loop-task.task-index _ inside c.compulsory.ensures.value c.loop-task.invariant.kept c.in_ok-add_part.ensures;
      each = each_gathered c.compulsory.result c.loop-task.kept.items c.add_part.new.kept.items c.loop-task.invariant.each c.compulsory.ensures.part c.in_ok-add_part.ensures;
    }

pub returns-clause-kept : goal.returns-clause-kept
returns-clause-kept c = kept_all c.args.store.now.box c.args.used.now c.args.tasks.now c.loop-task.kept.items c.loop-task.task-index c.loop-task-test.false c.loop-task.invariant.kept

pub returns-clause-parts : goal.returns-clause-parts
returns-clause-parts c =
    parts_kept (length c.args.store.now.box) c.args.store.now.box c.args.tasks.now c.args.used.now c.loop-task.kept.items c.requires.tasks c.requires.used
    (kept_all c.args.store.now.box c.args.used.now c.args.tasks.now c.loop-task.kept.items c.loop-task.task-index c.loop-task-test.false c.loop-task.invariant.kept) c.loop-task.invariant.each
