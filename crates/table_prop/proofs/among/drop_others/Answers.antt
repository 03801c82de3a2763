use Rattle.std.proofs.Common.{rules, FitsSigned}
use Rattle.std.specs.Int.{w64}
use Rattle.std.proofs.lemmas.Int.{to_z-of_z}
use Rattle.table_prop.proofs.Choosing.{wide_among, each_among}
use Rattle.table_prop.proofs.among.drop_others.Goals as goal

pub returns-then-span-ge-NARROW : goal.returns-then-span-ge-NARROW
returns-then-span-ge-NARROW c = wide_among c.args.term c.args.values.now c.span_of-span.result c.args.store.now c.least-low.ensures.well_formed (search rules) c.span_of-span.ensures

pub returns : goal.returns
returns c =
    let f : FitsSigned w64 c.least-low.result = search rules in
    each_among c.args.term c.args.values.now c.least-low.result c.span_of-span.result c.args.store.now c.drop_from.new.store c.drop_from.result c.least-low.ensures.well_formed c.requires.term c.least-low.ensures.value c.span_of-span.ensures (simp to_z-of_z at c.drop_from.ensures)
