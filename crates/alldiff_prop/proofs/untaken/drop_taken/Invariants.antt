use Rattle.fzn_model.specs.declared.con.Con.TheVariants as con
use Rattle.dom_store.specs.declared.pass.Passed.TheVariants as passed
use Rattle.dom_store.specs.Steps.{Step, EachTo}
use Rattle.alldiff_prop.specs.Untaken.{BoundsAreFree}
use Rattle.fzn_model.specs.Meaning.{Holds}
use Rattle.alldiff_prop.proofs.untaken.drop_taken.Given as goal

abbrev pub invariant-loop-term : goal.invariant-loop-term
invariant-loop-term l = Step (EachTo (BoundsAreFree l.taken) l.members l.term-index) (Holds (con.AllDiffExcept l.members l.taken)) l.fn.store l.store passed.Done
