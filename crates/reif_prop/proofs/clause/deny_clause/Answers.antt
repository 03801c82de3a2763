use Rattle.std.proofs.Common.{length, pos}
use Rattle.fzn_model.specs.declared.base.Base.TheVariants as base
use Rattle.dom_store.specs.declared.pass.Passed.TheVariants as passed
use Rattle.dom_store.specs.Bases.{clause_of}
use Rattle.reif_prop.specs.Failing.{Fails}
use Rattle.reif_prop.specs.Denying.{FirstAre}
use Rattle.reif_prop.proofs.Bases.{over_on}
use Rattle.reif_prop.proofs.Clauses.{positive_false, clause_end, clause_denied}
use Rattle.reif_prop.proofs.clause.deny_clause.Goals as goal

pub returns-in-Empty : goal.returns-in-Empty
returns-in-Empty c =
    let k = clause_of c.args.pos.now c.args.neg.now in
    clause_end k (length k.pos) c.args.store.now c.fix_all.new.store (positive_false k (length k.pos) c.args.store.now c.fix_all.new.store passed.Empty c.requires c.in-Empty.ensures)

pub returns : goal.returns
returns c =
    let k = clause_of c.args.pos.now c.args.neg.now in
    let first = positive_false k (length k.pos) c.args.store.now c.fix_all.new.store passed.Done c.requires c.in-Done.ensures in
    let over = over_on (FirstAre k.pos (pos 0) (length k.pos)) (Fails (base.Clause k)) c.args.store.now c.fix_all.new.store passed.Done (base.Clause k) first c.requires in
    clause_denied k c.args.store.now c.fix_all.new.store c.fix_all-2.new.store c.fix_all-2.result over first c.fix_all-2.ensures
