use Rattle.std.proofs.Common.{length, sym, ◌∙◌}
use Rattle.std.proofs.lemmas.Bool.{eqb-true}
use Rattle.table_prop.specs.Among.{LowIsAmong}
use Rattle.table_prop.proofs.Choosing.{raised_among, none_among, no_number, first_is}
use Rattle.table_prop.proofs.among.cut_below_first.Goals as goal

pub returns : goal.returns
returns c = raised_among c.args.term c.args.values.now _ c.args.store.now c.cut_below.new.store c.cut_below.result c.requires.term (first_is c.args.values.now c.first_place.result c.first_place.ensures) c.cut_below.ensures.narrows

pub returns-then-is_empty : goal.returns-then-is_empty
returns-then-is_empty c = none_among (LowIsAmong c.args.term c.args.values.now) c.args.term c.args.values.now c.args.store.now c.requires.well_formed (no_number c.args.values.now (eqb-true (length c.args.values.now) 0 (sym c.is_empty.ensures ∙ c.if-is_empty.true)))
