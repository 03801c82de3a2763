use Rattle.dom_store.specs.declared.pass.Passed.TheVariants as passed
use Rattle.dom_store.specs.Steps.{Step}
use Rattle.reif_prop.specs.Denying.{AllHave, FirstAre}
use Rattle.reif_prop.proofs.clause.fix_all.Given as goal

abbrev pub invariant-loop-term : goal.invariant-loop-term
invariant-loop-term l = Step (FirstAre l.terms l.value l.term-index) (AllHave l.terms l.value) l.fn.store l.store passed.Done
