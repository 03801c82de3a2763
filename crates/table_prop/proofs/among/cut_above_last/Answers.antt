use Rattle.std.proofs.Common.{length, sym, ◌∙◌}
use Rattle.std.proofs.lemmas.Bool.{eqb-true}
use Rattle.table_prop.specs.Among.{HighIsAmong}
use Rattle.table_prop.proofs.Choosing.{capped_among, none_among, no_number, last_is}
use Rattle.table_prop.proofs.among.cut_above_last.Goals as goal

pub returns : goal.returns
returns c = capped_among c.args.term c.args.values.now _ c.args.store.now c.cut_above.new.store c.cut_above.result c.requires.term (last_is c.args.values.now c.last_place.result c.last_place.ensures) c.cut_above.ensures.narrows

pub returns-then-is_empty : goal.returns-then-is_empty
returns-then-is_empty c = none_among (HighIsAmong c.args.term c.args.values.now) c.args.term c.args.values.now c.args.store.now c.requires.well_formed (no_number c.args.values.now (eqb-true (length c.args.values.now) 0 (sym c.is_empty.ensures ∙ c.if-is_empty.true)))
