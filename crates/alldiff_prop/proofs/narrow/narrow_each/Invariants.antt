use Rattle.fzn_model.specs.declared.con.Con.TheVariants as con
use Rattle.dom_store.specs.declared.pass.Passed.TheVariants as passed
use Rattle.dom_store.specs.Steps.{Step, EachTo}
use Rattle.alldiff_prop.specs.Spans.{IsNarrowedSince}
use Rattle.fzn_model.specs.Meaning.{Holds}
use Rattle.alldiff_prop.proofs.narrow.narrow_each.Given as goal

abbrev pub invariant-loop-low : goal.invariant-loop-low
invariant-loop-low l = Step (EachTo (IsNarrowedSince l.fn.store.box l.members l.taken) l.lows l.low-index) (Holds (con.AllDiffExcept l.members l.taken)) l.fn.store l.store passed.Done
