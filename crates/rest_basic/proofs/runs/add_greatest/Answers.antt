use Rattle.std.proofs.Common.{arith, refl}
use Rattle.std.proofs.lemmas.Bool.{false≢true}
use Rattle.rest_basic.proofs.GatheredRuns.{add_first, add_touching, add_apart}
use Rattle.rest_basic.proofs.runs.add_greatest.Goals as goal

pub returns-in_ok-push-in-None : goal.returns-in_ok-push-in-None
returns-in_ok-push-in-None c =
    add_first c.args.number.now c.args.runs.now.items c.pop.new.self.items c.push.new.runs.items c.in-None.ensures.items (omega (arith, c.in-None.ensures.cases)) (rw c.alone.ensures at c.in_ok-push-in-None.ensures)

pub returns-in_ok-push-in-Some : goal.returns-in_ok-push-in-Some
returns-in_ok-push-in-Some c =
    add_touching c.args.number.now c.args.runs.now.items c.pop.new.self.items c.push-in-Some.new.runs.items c.in-Some.last c.requires c.in-Some.ensures.items (c.if-touches.ensures.0 refl) (rw c.up_to.ensures at c.in_ok-push-in-Some.ensures)

pub returns-in_ok-push-in-Some-2-2 : goal.returns-in_ok-push-in-Some-2-2
returns-in_ok-push-in-Some-2-2 c =
    add_apart c.args.number.now c.args.runs.now.items c.pop.new.self.items c.push-in-Some-2.new.runs.items c.push-in-Some-2-2.new.runs.items c.in-Some.last c.requires c.in-Some.ensures.items (λ next. false≢true (c.if-touches.ensures.1 next)) c.in_ok-push-in-Some-2.ensures (rw c.alone-in-Some-2.ensures at c.in_ok-push-in-Some-2-2.ensures)
