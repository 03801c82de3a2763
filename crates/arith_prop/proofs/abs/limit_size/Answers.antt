use Rattle.std.proofs.Common.{◌≡◌, arith, to_z, of_z}
use Rattle.std.specs.Int.{w64}
use Rattle.std.proofs.lemmas.Int.{ints}
use Rattle.arith_prop.proofs.Sizing.{limited_size}
use Rattle.arith_prop.proofs.abs.limit_size.Goals as goal

pub returns : goal.returns
returns c =
    let plain : to_z w64 (of_z w64 c.size_of-number.result) ≡ c.size_of-number.result = omega (arith, ints) in
    limited_size c.args.extreme c.args.a c.args.b c.hull.result c.size_of-number.result c.args.store.now c.cut.new.store c.cut.result c.hull.ensures.well_formed c.requires c.hull.ensures.value c.size_of-number.ensures (rw plain at c.cut.ensures.narrows)
