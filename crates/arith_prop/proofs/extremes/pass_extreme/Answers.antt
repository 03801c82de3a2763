use Rattle.std.proofs.Common.{length}
use Rattle.arith_prop.specs.Parts.{extreme_con}
use Rattle.arith_prop.specs.Extremes.{ReachesEach, IsReached, MembersAreBounded}
use Rattle.arith_prop.proofs.Passing.{pass_three, pass_end, pass_end_after}
use Rattle.arith_prop.proofs.Choosing.{extreme_in, extreme_owed}
use Rattle.arith_prop.proofs.extremes.pass_extreme.Goals as goal

pub returns-in-Empty : goal.returns-in-Empty
returns-in-Empty c =
    let e = c.args.extreme in
    let m = c.args.m in
    let xs = c.args.terms.now in
    pass_end (ReachesEach e m xs) (extreme_con e m xs) c.args.store.now c.reach_each.new.store c.in-Empty.ensures

pub returns-in-Empty-keep_reached : goal.returns-in-Empty-keep_reached
returns-in-Empty-keep_reached c =
    let e = c.args.extreme in
    let m = c.args.m in
    let xs = c.args.terms.now in
    pass_end_after (ReachesEach e m xs) (IsReached e m xs) (extreme_con e m xs) c.args.store.now c.reach_each.new.store c.keep_reached.new.store c.in-Done.ensures c.in-Empty-keep_reached.ensures

pub returns : goal.returns
returns c =
    let e = c.args.extreme in
    let m = c.args.m in
    let xs = c.args.terms.now in
    pass_three (ReachesEach e m xs) (IsReached e m xs) (MembersAreBounded e m xs (length xs)) (extreme_con e m xs) c.args.store.now c.reach_each.new.store c.keep_reached.new.store c.limit_members.new.store c.limit_members.result
    (extreme_in e (length c.args.store.now.box) m xs c.requires.result c.requires.members) (extreme_owed e m xs c.limit_members.new.store.box) c.in-Done.ensures c.in-Done-keep_reached.ensures c.limit_members.ensures
