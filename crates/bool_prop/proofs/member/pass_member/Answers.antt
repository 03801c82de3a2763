use Rattle.fzn_model.specs.Meaning.{Holds}
use Rattle.dom_store.proofs.Stepping.{still_in, step_end, step_end_after}
use Rattle.dom_store.specs.Bases.{member_of}
use Rattle.bool_prop.specs.Parts.{member_con}
use Rattle.bool_prop.specs.Inside.{BoundIsIn}
use Rattle.dom_store.specs.Strength.{ConIsOwed}
use Rattle.dom_store.specs.declared.extreme.Extreme.TheVariants as extreme
use Rattle.bool_prop.proofs.Members.{member_concludes}
use Rattle.bool_prop.proofs.member.pass_member.Goals as goal

pub returns-in-Empty : goal.returns-in-Empty
returns-in-Empty c = let m = member_of c.args.x c.args.set.now in step_end (BoundIsIn extreme.Least m) (ConIsOwed (member_con m)) (Holds (member_con m)) _ _ c.in-Empty.ensures

pub cut_to_near-requires-2-clause-term : goal.cut_to_near-requires-2-clause-term
cut_to_near-requires-2-clause-term c = let m = member_of c.args.x c.args.set.now in still_in (Holds (member_con m)) c.args.store.now c.cut_to_near.new.store c.args.x c.cut_to_near.ensures.prunes c.requires.term

pub returns-in-Empty-cut_to_near : goal.returns-in-Empty-cut_to_near
returns-in-Empty-cut_to_near c = let m = member_of c.args.x c.args.set.now in step_end_after (BoundIsIn extreme.Least m) (BoundIsIn extreme.Greatest m) (ConIsOwed (member_con m)) (Holds (member_con m)) _ _ _ c.in-Done.ensures c.in-Empty-cut_to_near.ensures

pub drop_each-requires-clause-term : goal.drop_each-requires-clause-term
drop_each-requires-clause-term c =
    let m = member_of c.args.x c.args.set.now in
    still_in (Holds (member_con m)) c.cut_to_near.new.store c.cut_to_near-2.new.store c.args.x c.cut_to_near-2.ensures.prunes
    (still_in (Holds (member_con m)) c.args.store.now c.cut_to_near.new.store c.args.x c.cut_to_near.ensures.prunes c.requires.term)

pub returns : goal.returns
returns c = member_concludes (member_of c.args.x c.args.set.now) c.args.store.now c.cut_to_near.new.store c.cut_to_near-2.new.store c.drop_each.new.store c.drop_each.result c.requires.term c.in-Done.ensures c.in-Done-cut_to_near.ensures c.drop_each.ensures
