use Rattle.std.proofs.Common.{length, pos}
use Rattle.std.specs.Prelude.{slice_index_or}
use Rattle.fzn_model.specs.declared.term.Term.TheVariants as term
use Rattle.dom_store.specs.Steps.{EachTo}
use Rattle.alldiff_prop.specs.Halls.{IsApart}
use Rattle.alldiff_prop.proofs.Crowding.{full_on}
use Rattle.dom_store.proofs.Stepping.{each_none, each_more, each_all, step_done, step_end_after}
use Rattle.alldiff_prop.proofs.Ready.{ready_after}
use Rattle.alldiff_prop.proofs.narrow.narrow_members.Goals as goal

pub loop-term-init : goal.loop-term-init
loop-term-init c = each_none (IsApart c.args.low.now c.args.fulls.now) _ _ _ c.recall_domains.ensures.domains

pub narrow_member-requires-clause-ready : goal.narrow_member-requires-clause-ready
narrow_member-requires-clause-ready c = ready_after (EachTo (IsApart c.args.low.now c.args.fulls.now) c.args.members.now c.loop-term.term-index) _ _ _ _ _ c.loop-term.invariant c.requires.ready

pub narrow_member-requires-clause-full : goal.narrow_member-requires-clause-full
narrow_member-requires-clause-full c = full_on _ _ _ _ _ _ c.requires.ready c.loop-term.invariant.well_formed c.loop-term.invariant.prunes c.requires.full

pub returns-in-Empty : goal.returns-in-Empty
returns-in-Empty c =
    step_end_after (EachTo (IsApart c.args.low.now c.args.fulls.now) c.args.members.now c.loop-term.term-index) (IsApart c.args.low.now c.args.fulls.now (slice_index_or c.args.members.now c.loop-term.term-index (term.Const (pos 0)))) (EachTo (IsApart c.args.low.now c.args.fulls.now) c.args.members.now (length c.args.members.now)) _ _ _ _ c.loop-term.invariant c.in-Empty.ensures

pub loop-term-preserved : goal.loop-term-preserved
loop-term-preserved c =
    each_more (IsApart c.args.low.now c.args.fulls.now) _ c.loop-term.term-index (term.Const (pos 0)) _ _ _ _ c.loop-term-test.true c.loop-term.invariant
    (step_done (IsApart c.args.low.now c.args.fulls.now (slice_index_or c.args.members.now c.loop-term.term-index (term.Const (pos 0)))) _ _ _ _ c.in_default.not-Empty c.narrow_member.ensures)

pub returns : goal.returns
returns c = each_all (IsApart c.args.low.now c.args.fulls.now) _ c.loop-term.term-index _ _ _ c.loop-term-test.false c.loop-term.invariant
