use Rattle.std.proofs.Common.{length, pos}
use Rattle.std.specs.Prelude.{slice_index_or}
use Rattle.fzn_model.specs.declared.term.Term.TheVariants as term
use Rattle.dom_store.specs.Steps.{EachTo}
use Rattle.alldiff_prop.specs.Untaken.{BoundsAreFree}
use Rattle.dom_store.proofs.Stepping.{each_none, each_more, each_all, step_done, step_end_after}
use Rattle.alldiff_prop.proofs.Ready.{ready_after}
use Rattle.alldiff_prop.proofs.untaken.drop_taken.Goals as goal

pub loop-term-init : goal.loop-term-init
loop-term-init c = each_none (BoundsAreFree c.args.taken.now) _ _ _ c.recall_domains.ensures.domains

pub drop_bounds-requires-clause-ready : goal.drop_bounds-requires-clause-ready
drop_bounds-requires-clause-ready c = ready_after (EachTo (BoundsAreFree c.args.taken.now) c.args.members.now c.loop-term.term-index) _ _ _ _ _ c.loop-term.invariant c.requires

pub returns-in-Empty : goal.returns-in-Empty
returns-in-Empty c =
    step_end_after (EachTo (BoundsAreFree c.args.taken.now) c.args.members.now c.loop-term.term-index) (BoundsAreFree c.args.taken.now (slice_index_or c.args.members.now c.loop-term.term-index (term.Const (pos 0)))) (EachTo (BoundsAreFree c.args.taken.now) c.args.members.now (length c.args.members.now)) _ _ _ _ c.loop-term.invariant c.in-Empty.ensures

pub loop-term-preserved : goal.loop-term-preserved
loop-term-preserved c =
    each_more (BoundsAreFree c.args.taken.now) _ c.loop-term.term-index (term.Const (pos 0)) _ _ _ _ c.loop-term-test.true c.loop-term.invariant
    (step_done (BoundsAreFree c.args.taken.now (slice_index_or c.args.members.now c.loop-term.term-index (term.Const (pos 0)))) _ _ _ _ c.in_default.not-Empty c.drop_bounds.ensures)

pub returns : goal.returns
returns c = each_all (BoundsAreFree c.args.taken.now) _ c.loop-term.term-index _ _ _ c.loop-term-test.false c.loop-term.invariant
