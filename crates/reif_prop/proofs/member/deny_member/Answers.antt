use Rattle.std.proofs.Common.{pos}
use Rattle.std.specs.Prelude.{slice_index_or}
use Rattle.std.proofs.lemmas.List.{get_or_default}
use Rattle.fzn_model.specs.declared.base.Base.TheVariants as base
use Rattle.dom_store.specs.Bases.{member_of}
use Rattle.reif_prop.specs.Failing.{Fails}
use Rattle.dom_store.proofs.Stepping.{still_in}
use Rattle.reif_prop.proofs.Members.{runs_none, runs_more, runs_end, runs_all}
use Rattle.reif_prop.proofs.member.deny_member.Goals as goal

pub loop-run-init : goal.loop-run-init
loop-run-init c = runs_none c.args.x c.args.set.now c.args.store.now c.requires.well_formed

pub drop_run-requires-clause-term : goal.drop_run-requires-clause-term
drop_run-requires-clause-term c =
    still_in (Fails (base.Member (member_of c.args.x c.args.set.now))) c.args.store.now c.loop-run.store c.args.x c.loop-run.invariant.prunes c.requires.kept.x

pub returns-in-Empty : goal.returns-in-Empty
returns-in-Empty c =
    let n = c.loop-run.run-index in
    let set = c.args.set.now in
    let run = slice_index_or set n (pos 0, pos 0) in
    runs_end c.args.x set n run c.args.store.now c.loop-run.store c.drop_run.new.store c.loop-run-test.true (get_or_default set n run (pos 0, pos 0) c.loop-run-test.true) c.loop-run.invariant c.in-Empty.ensures

pub loop-run-preserved : goal.loop-run-preserved
loop-run-preserved c =
    let n = c.loop-run.run-index in
    let set = c.args.set.now in
    let run = slice_index_or set n (pos 0, pos 0) in
    runs_more c.args.x set n run c.args.store.now c.loop-run.store c.drop_run.new.store c.loop-run-test.true (get_or_default set n run (pos 0, pos 0) c.loop-run-test.true) c.loop-run.invariant c.in-Done.ensures

pub returns : goal.returns
returns c = runs_all c.args.x c.args.set.now c.loop-run.run-index c.args.store.now c.loop-run.store c.loop-run-test.false c.loop-run.invariant
