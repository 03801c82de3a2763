use Rattle.std.proofs.Common.{length, pos, sym, subst}
use Rattle.fzn_model.specs.declared.term.Term.TheVariants as term
use Rattle.table_prop.specs.Rows.{AreEntries}
use Rattle.table_prop.proofs.Supporting.{column_steps, settled_steps}
use Rattle.table_prop.proofs.columns.narrow_column.Goals as goal

pub returns-clause-prunes : goal.returns-clause-prunes
returns-clause-prunes c =
    let vs = c.as_slice.result.now in
    let are : AreEntries c.args.rows.now (length c.args.columns.now) c.args.column c.args.found.now vs = subst (AreEntries c.args.rows.now (length c.args.columns.now) c.args.column c.args.found.now) (sym c.as_slice.ensures.value) c.in_ok-put_entries.ensures in
    let step = column_steps c.args.columns.now c.args.rows.now c.args.found.now c.args.column (term.Const (pos 0)) vs c.args.store.now c.keep_listed.new.store c.keep_listed.result c.requires.chosen c.requires.column are c.keep_listed.ensures in
    step.prunes

pub returns-clause-steps : goal.returns-clause-steps
returns-clause-steps c =
    let vs = c.as_slice.result.now in
    let are : AreEntries c.args.rows.now (length c.args.columns.now) c.args.column c.args.found.now vs = subst (AreEntries c.args.rows.now (length c.args.columns.now) c.args.column c.args.found.now) (sym c.as_slice.ensures.value) c.in_ok-put_entries.ensures in
    column_steps c.args.columns.now c.args.rows.now c.args.found.now c.args.column (term.Const (pos 0)) vs c.args.store.now c.keep_listed.new.store c.keep_listed.result c.requires.chosen c.requires.column are c.keep_listed.ensures

pub returns-then-is_settled-clause-steps : goal.returns-then-is_settled-clause-steps
returns-then-is_settled-clause-steps c = settled_steps c.args.columns.now c.args.rows.now c.args.found.now c.args.column c.args.store.now c.requires.ready c.requires.column (c.is_settled.ensures c.if-is_settled.true)
