use Rattle.std.proofs.Common.{refl}
use Rattle.alldiff_prop.proofs.Freeing.{none_taken}
use Rattle.alldiff_prop.proofs.untaken.are_free.Goals as goal

pub returns-then-is_empty : goal.returns-then-is_empty
returns-then-is_empty c = ((λ yes. none_taken c.args.taken.now c.args.members.now c.args.store.now.box (c.is_empty.ensures c.if-is_empty.true)), (λ free. refl))
