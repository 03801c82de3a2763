use Rattle.std.proofs.Common.{◌≡◌, arith, to_z, of_z}
use Rattle.std.specs.Int.{w64}
use Rattle.std.proofs.lemmas.Int.{ints}
use Rattle.arith_prop.proofs.Multiplying.{limited_product}
use Rattle.arith_prop.proofs.times.limit_product.Goals as goal

pub returns : goal.returns
returns c =
    let plain : to_z w64 (of_z w64 c.corner-number.result) ≡ c.corner-number.result = omega (arith, ints) in
    limited_product c.args.extreme c.args.a c.args.b c.args.c c.hull.result c.hull-2.result c.corner-number.result c.args.store.now c.cut.new.store c.cut.result
    c.hull.ensures.well_formed c.requires c.hull.ensures.value c.hull-2.ensures.value c.corner-number.ensures (rw plain at c.cut.ensures.narrows)
