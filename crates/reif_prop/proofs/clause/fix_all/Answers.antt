use Rattle.std.proofs.Common.{length, pos}
use Rattle.std.specs.Prelude.{slice_index_or}
use Rattle.std.proofs.lemmas.List.{get_or_default}
use Rattle.fzn_model.specs.declared.term.Term.TheVariants as term
use Rattle.reif_prop.proofs.Clauses.{first_none, first_more, first_end, first_all}
use Rattle.reif_prop.proofs.clause.fix_all.Goals as goal

pub loop-term-init : goal.loop-term-init
loop-term-init c = first_none c.args.terms.now c.args.value.now c.args.store.now c.requires.well_formed

pub loop-term-preserved : goal.loop-term-preserved
loop-term-preserved c =
    let n = c.loop-term.term-index in
    let ts = c.args.terms.now in
    let t = slice_index_or ts n (term.Const (pos 0)) in
    first_more ts c.args.value.now n t c.args.store.now c.loop-term.store c.fix_once.new.store c.loop-term-test.true (get_or_default ts n t (term.Const (pos 0)) c.loop-term-test.true) c.loop-term.invariant c.in-Done.ensures

pub returns-in-Empty : goal.returns-in-Empty
returns-in-Empty c =
    let n = c.loop-term.term-index in
    let ts = c.args.terms.now in
    let t = slice_index_or ts n (term.Const (pos 0)) in
    first_end ts c.args.value.now n (length ts) t c.args.store.now c.loop-term.store c.fix_once.new.store c.loop-term-test.true (get_or_default ts n t (term.Const (pos 0)) c.loop-term-test.true) c.loop-term.invariant c.in-Empty.ensures

pub returns : goal.returns
returns c = first_all c.args.terms.now c.args.value.now c.loop-term.term-index c.args.store.now c.loop-term.store c.loop-term-test.false c.loop-term.invariant
