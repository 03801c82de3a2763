use Rattle.std.specs.Prelude.{length, pos}
use Rattle.fzn_model.specs.declared.term.Term.TheVariants as term
use Rattle.fzn_model.specs.Meaning.{Holds}
use Rattle.dom_store.proofs.Stepping.{each_none}
use Rattle.arith_prop.specs.Parts.{extreme_con}
use Rattle.dom_store.specs.Extremes.{bound_of, IsBounded}
use Rattle.arith_prop.specs.Extremes.{MembersAreBounded}
use Rattle.arith_prop.proofs.Choosing.{members_more, members_end}
use Rattle.arith_prop.proofs.extremes.limit_members.Goals as goal

pub loop-term-init : goal.loop-term-init
loop-term-init c = each_none (IsBounded c.args.extreme (bound_of c.args.extreme c.args.m)) c.args.terms.now (Holds (extreme_con c.args.extreme c.args.m c.args.terms.now)) c.args.store.now c.recall_domains.ensures.domains

pub loop-term-preserved : goal.loop-term-preserved
loop-term-preserved c = members_more c.args.extreme c.args.m (term.Const (pos 0)) c.args.terms.now c.loop-term.term-index c.args.store.now c.loop-term.store c.limit.new.store c.loop-term-test.true c.requires.result c.loop-term.invariant c.in-Done.ensures

pub returns-in-Empty : goal.returns-in-Empty
returns-in-Empty c =
    let P = MembersAreBounded c.args.extreme c.args.m c.args.terms.now (length c.args.terms.now) in
    members_end c.args.extreme c.args.m (term.Const (pos 0)) c.args.terms.now c.loop-term.term-index P c.args.store.now c.loop-term.store c.limit.new.store c.loop-term-test.true c.requires.result c.loop-term.invariant c.in-Empty.ensures
