use Rattle.std.proofs.Common.{refl}
use Rattle.alldiff_prop.proofs.Sweeping.{swept_none}
use Rattle.alldiff_prop.proofs.sweep.first_sweep.Goals as goal

pub returns : goal.returns
returns c = swept_none c.args.taken.now c.args.low.now c.args.spans.now _ refl
