use Rattle.std.proofs.Common.{arith, pos}
use Rattle.std.proofs.lemmas.Int.{ints, to_z-of_z}
use Rattle.fzn_model.specs.declared.term.Term.TheVariants.{Const}
use Rattle.fzn_model.proofs.Moments.{task_drop}
use Rattle.fzn_model.proofs.cumulative.task_load.Goals as goal

pub loop-task-preserved : goal.loop-task-preserved
loop-task-preserved c =
    let f = c.ranges.t in
    let e = task_drop c.args.tasks.now c.loop-task.task-index (record { s = Const (pos 0); d = Const (pos 0); r = Const (pos 0) }) c.args.values.now c.args.t c.loop-task-test.true in
    let told = simp to_z-of_z at c.loop-task.invariant.told in
    let more = simp to_z-of_z at c.task_at-load.ensures.value in
    record { told = simp to_z-of_z (omega (arith, ints, e, told, more)); low = omega (arith, ints); high = omega (arith, ints) }
