use Rattle.fzn_model.specs.declared.con.Con.TheVariants as con
use Rattle.dom_store.specs.declared.pass.Passed.TheVariants as passed
use Rattle.dom_store.specs.Steps.{Step}
use Rattle.table_prop.specs.Rows.{IsReady, AreChosen, AreSupported}
use Rattle.fzn_model.specs.Meaning.{Holds}
use Rattle.table_prop.proofs.columns.narrow_columns.Given as goal

abbrev pub invariant-loop-column : goal.invariant-loop-column
invariant-loop-column l = record {
  ready : IsReady l.store.box l.columns;
  chosen : AreChosen l.store.box l.columns l.rows l.found;
  steps : Step (AreSupported l.columns l.rows l.found l.column) (Holds (con.Table l.columns l.rows)) l.fn.store l.store passed.Done;
}
