use Rattle.std.proofs.Common.{refl}
use Rattle.std.proofs.lemmas.Bool.{false≢true}
use Rattle.rest_forms.proofs.JoinedRuns.{join_on, join_apart}
use Rattle.rest_forms.proofs.used_runs.join.Goals as goal

pub returns-in_ok-push-in-Some : goal.returns-in_ok-push-in-Some
returns-in_ok-push-in-Some c =
    join_on c.args.part.now c.in-Some.last c.args.runs.now.items c.pop.new.self.items c.push-in-Some.new.runs.items c.requires c.in-Some.ensures.items (c.if-goes_on.ensures.0 refl) (rw c.up_to.ensures at c.in_ok-push-in-Some.ensures)

pub returns-in_ok-push-in-Some-2-2 : goal.returns-in_ok-push-in-Some-2-2
returns-in_ok-push-in-Some-2-2 c =
    join_apart c.args.part.now c.in-Some.last c.args.runs.now.items c.pop.new.self.items c.push-in-Some-2.new.runs.items c.push-in-Some-2-2.new.runs.items c.requires c.in-Some.ensures.items (λ on. false≢true (c.if-goes_on.ensures.1 on)) c.in_ok-push-in-Some-2.ensures c.in_ok-push-in-Some-2-2.ensures
