use Rattle.std.proofs.Common.{length, subst}
use Rattle.fzn_model.specs.declared.con.Con.TheVariants as con
use Rattle.dom_store.specs.Steps.{Step}
use Rattle.table_prop.specs.Rows.{IsSupported}
use Rattle.table_prop.proofs.Supporting.{ready_on, chosen_on, columns_none, columns_more, columns_end}
use Rattle.fzn_model.specs.Meaning.{Holds}
use Rattle.table_prop.proofs.columns.narrow_columns.Goals as goal

pub loop-column-init : goal.loop-column-init
loop-column-init c = record {
  ready = c.requires.ready;
  chosen = c.requires.chosen;
  steps = columns_none c.args.columns.now c.args.rows.now c.args.found.now c.args.store.now c.requires.ready.well_formed;
}

pub loop-column-preserved : goal.loop-column-preserved
loop-column-preserved c =
    let xs = c.args.columns.now in
    let rows = c.args.rows.now in
    let found = c.args.found.now in
    let before = c.loop-column.store in
    let after = c.narrow_column.new.store in
    let step = subst (Step (IsSupported xs rows found c.loop-column.column) (Holds (con.Table xs rows)) before after) c.in-Done.is c.in_ok-narrow_column.ensures.steps in
    record {
      ready = ready_on xs rows before after step.prunes step.well_formed c.loop-column.invariant.ready;
      chosen = chosen_on xs rows found before after step.prunes c.loop-column.invariant.chosen;
      steps = columns_more xs rows found c.loop-column.column c.args.store.now before after c.loop-column.invariant.steps step;
    }

pub returns-in-Empty-clause-steps : goal.returns-in-Empty-clause-steps
returns-in-Empty-clause-steps c =
    let xs = c.args.columns.now in
    let rows = c.args.rows.now in
    let found = c.args.found.now in
    let before = c.loop-column.store in
    let after = c.narrow_column.new.store in
    let step = subst (Step (IsSupported xs rows found c.loop-column.column) (Holds (con.Table xs rows)) before after) c.in-Empty.is c.in_ok-narrow_column.ensures.steps in
    columns_end xs rows found c.loop-column.column (length xs) c.args.store.now before after c.loop-column.invariant.steps step
