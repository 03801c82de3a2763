use Rattle.dom_store.specs.declared.pass.Passed.TheVariants as passed
use Rattle.table_prop.specs.Among.{IsAmong, LowIsAmong, HighIsAmong, AreAmong}
use Rattle.dom_store.proofs.Stepping.{narrows_in, narrows_end, narrows_end_after}
use Rattle.table_prop.proofs.Choosing.{are_among}
use Rattle.table_prop.proofs.among.keep_listed.Goals as goal

pub returns-in-Empty : goal.returns-in-Empty
returns-in-Empty c =
    let vs = c.args.values.now in
    narrows_end (IsAmong vs) (LowIsAmong c.args.term vs) (AreAmong c.args.term vs) c.args.term c.args.store.now c.cut_below_first.new.store c.in-Empty.ensures

pub cut_above_last-requires-clause-term : goal.cut_above_last-requires-clause-term
cut_above_last-requires-clause-term c =
    let vs = c.args.values.now in
    narrows_in (IsAmong vs) (LowIsAmong c.args.term vs) c.args.term c.args.store.now c.cut_below_first.new.store passed.Done c.in-Done.ensures c.requires.term

pub cut_above_last-requires-clause-well_formed : goal.cut_above_last-requires-clause-well_formed
cut_above_last-requires-clause-well_formed c = c.cut_below_first.ensures.step.well_formed

pub returns-in-Empty-cut_above_last : goal.returns-in-Empty-cut_above_last
returns-in-Empty-cut_above_last c =
    let vs = c.args.values.now in
    narrows_end_after (IsAmong vs) (LowIsAmong c.args.term vs) (HighIsAmong c.args.term vs) (AreAmong c.args.term vs) c.args.term c.args.store.now c.cut_below_first.new.store c.cut_above_last.new.store c.in-Done.ensures c.in-Empty-cut_above_last.ensures

pub drop_others-requires-clause-term : goal.drop_others-requires-clause-term
drop_others-requires-clause-term c =
    let vs = c.args.values.now in
    let first = narrows_in (IsAmong vs) (LowIsAmong c.args.term vs) c.args.term c.args.store.now c.cut_below_first.new.store passed.Done c.in-Done.ensures c.requires.term in
    narrows_in (IsAmong vs) (HighIsAmong c.args.term vs) c.args.term c.cut_below_first.new.store c.cut_above_last.new.store passed.Done c.in-Done-cut_above_last.ensures first

pub returns : goal.returns
returns c = are_among c.args.term c.args.values.now c.args.store.now c.cut_below_first.new.store c.cut_above_last.new.store c.drop_others.new.store c.drop_others.result c.in-Done.ensures c.in-Done-cut_above_last.ensures c.drop_others.ensures
