use Rattle.fzn_model.specs.declared.base.Base.TheVariants as base
use Rattle.dom_store.specs.declared.pass.Passed.TheVariants as passed
use Rattle.dom_store.specs.Bases.{member_of}
use Rattle.dom_store.specs.Steps.{Step}
use Rattle.reif_prop.specs.Failing.{Fails}
use Rattle.reif_prop.specs.Denying.{FirstRunsAreOff}
use Rattle.reif_prop.proofs.member.deny_member.Given as goal

abbrev pub invariant-loop-run : goal.invariant-loop-run
invariant-loop-run l = Step (FirstRunsAreOff l.x l.set l.run-index) (Fails (base.Member (member_of l.x l.set))) l.fn.store l.store passed.Done
