use Rattle.dom_store.specs.declared.pass.Passed.TheVariants as passed
use Rattle.dom_store.specs.Steps.{Step}
use Rattle.fzn_model.specs.Meaning.{Holds}
use Rattle.arith_prop.specs.Parts.{extreme_con}
use Rattle.arith_prop.specs.Extremes.{MembersAreBounded}
use Rattle.arith_prop.proofs.extremes.limit_members.Given as goal

abbrev pub invariant-loop-term : goal.invariant-loop-term
invariant-loop-term l = Step (MembersAreBounded l.extreme l.m l.terms l.term-index) (Holds (extreme_con l.extreme l.m l.terms)) l.fn.store l.store passed.Done
