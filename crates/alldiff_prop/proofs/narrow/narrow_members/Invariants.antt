use Rattle.fzn_model.specs.declared.con.Con.TheVariants as con
use Rattle.dom_store.specs.declared.pass.Passed.TheVariants as passed
use Rattle.dom_store.specs.Steps.{Step, EachTo}
use Rattle.alldiff_prop.specs.Halls.{IsApart}
use Rattle.fzn_model.specs.Meaning.{Holds}
use Rattle.alldiff_prop.proofs.narrow.narrow_members.Given as goal

abbrev pub invariant-loop-term : goal.invariant-loop-term
invariant-loop-term l = Step (EachTo (IsApart l.low l.fulls) l.members l.term-index) (Holds (con.AllDiffExcept l.members l.taken)) l.fn.store l.store passed.Done
