use Rattle.fzn_model.specs.declared.con.Con.TheVariants as con
use Rattle.dom_store.specs.declared.pass.Passed.TheVariants as passed
use Rattle.dom_store.specs.Steps.{Step}
use Rattle.cumul_prop.specs.Parts.{IsReady}
use Rattle.cumul_prop.specs.Narrowing.{AllBounded, LimitedTo}
use Rattle.fzn_model.specs.Meaning.{Holds}
use Rattle.cumul_prop.proofs.starts.limit_starts.Given as goal

abbrev pub invariant-loop-at : goal.invariant-loop-at
invariant-loop-at l = record {
  ready : IsReady l.store.box l.tasks l.used l.capacity;
  bounded : AllBounded l.tasks l.used l.capacity l.limits l.store.box;
  steps : Step (LimitedTo l.tasks l.limits l.at) (Holds (con.CumulUsed l.tasks l.used l.capacity)) l.fn.store l.store passed.Done;
}
