use Rattle.dom_store.specs.Steps.{Step, EachTo}
use Rattle.dom_store.specs.declared.pass.Passed.TheVariants as passed
use Rattle.lin_prop.specs.Capped.{RisesBoth, SumIsBoth}
use Rattle.lin_prop.proofs.lin_prop.cap_both.Given as goal

abbrev pub invariant-loop-scaled : goal.invariant-loop-scaled
invariant-loop-scaled l = Step (EachTo (RisesBoth l.up l.down) l.terms l.scaled-index) (SumIsBoth l.terms l.r) l.fn.store l.store passed.Done
