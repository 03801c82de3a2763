use Rattle.std.proofs.Common.{ap}
use Rattle.explorer.specs.Offers.{Kept}
use Rattle.explorer.proofs.Keeping.{best_is}
use Rattle.explorer.proofs.found.Found.values.Goals as goal

pub returns-then-self-clause-some : goal.returns-then-self-clause-some
returns-then-self-clause-some c = (c.self.inside.cost, best_is c.args.self.now c.self.inside.some c.self.inside.values.items c.as_slice.result.now c.self.inside.cost (ap (λ (k : Kept). k.best) c.self.view_is) c.if-self.true c.as_slice.ensures.value)
