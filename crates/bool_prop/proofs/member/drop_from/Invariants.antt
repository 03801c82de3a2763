use Rattle.dom_store.specs.declared.pass.Passed.TheVariants as passed
use Rattle.dom_store.specs.Steps.{Step}
use Rattle.fzn_model.specs.Meaning.{Holds}
use Rattle.dom_store.specs.Bases.{member_of}
use Rattle.bool_prop.specs.Parts.{member_con}
use Rattle.bool_prop.specs.Inside.{ValuesAreIn}
use Rattle.bool_prop.proofs.member.drop_from.Given as goal

abbrev pub invariant-loop-value : goal.invariant-loop-value
invariant-loop-value l = Step (ValuesAreIn (member_of l.x l.set) l.low l.value) (Holds (member_con (member_of l.x l.set))) l.fn.store l.store passed.Done
