use Rattle.dom_store.specs.Steps.{Step, EachTo}
use Rattle.dom_store.specs.declared.pass.Passed.TheVariants as passed
use Rattle.lin_prop.specs.Signed.{signed, signed_all}
use Rattle.dom_store.specs.Sums.{RisesWithin}
use Rattle.lin_prop.specs.Capped.{SumIsAtMost}
use Rattle.lin_prop.proofs.capped.cap_terms.Given as goal

abbrev pub invariant-loop-scaled : goal.invariant-loop-scaled
invariant-loop-scaled l = Step (EachTo (λ t. RisesWithin l.slack (signed l.negated t)) l.terms l.scaled-index) (SumIsAtMost (signed_all l.negated l.terms) l.most) l.fn.store l.store passed.Done
