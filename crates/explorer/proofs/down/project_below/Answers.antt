use Rattle.std.proofs.Common.{FitsSigned, w64, rules}
use Rattle.std.proofs.lemmas.Int.{to_z-of_z}
use Rattle.explorer.proofs.Resting.{projected_if}
use Rattle.explorer.proofs.down.project_below.Goals as goal

pub returns : goal.returns
returns c =
    let fits : FitsSigned w64 c.args.seen.now = search rules in
    projected_if c.args.task.now.model.now c.args.store.now.box c.args.seen.now _ c.args.task.now.limit c.project.result c.project.ensures.exact c.project.ensures.means (to_z-of_z w64 c.args.seen.now fits)
