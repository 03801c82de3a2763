use Rattle.fzn_model.specs.declared.con.Con.TheVariants as con
use Rattle.dom_store.specs.declared.pass.Passed.TheVariants as passed
use Rattle.dom_store.specs.Steps.{Step}
use Rattle.cumul_prop.specs.Parts.{IsReady, AreSignedTo}
use Rattle.fzn_model.specs.Meaning.{Holds}
use Rattle.cumul_prop.proofs.signs.sign_tasks.Given as goal

abbrev pub invariant-loop-at : goal.invariant-loop-at
invariant-loop-at l = record {
  ready : IsReady l.store.box l.tasks l.used l.capacity;
  steps : Step (AreSignedTo l.tasks l.at) (Holds (con.CumulUsed l.tasks l.used l.capacity)) l.fn.store l.store passed.Done;
}
