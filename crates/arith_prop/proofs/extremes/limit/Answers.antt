use Rattle.std.proofs.Common.{◌≡◌, arith, to_z, of_z}
use Rattle.std.specs.Int.{w64}
use Rattle.std.proofs.lemmas.Int.{ints}
use Rattle.dom_store.specs.Extremes.{bound_of}
use Rattle.dom_store.proofs.Limiting.{limited}
use Rattle.arith_prop.proofs.extremes.limit.Goals as goal

pub returns : goal.returns
returns c =
    let plain : to_z w64 (of_z w64 c.bound-number.result) ≡ c.bound-number.result = omega (arith, ints) in
    record { narrows = limited c.args.extreme (bound_of c.args.extreme c.args.other) c.args.term c.bound-number.result c.args.store.now c.cut.new.store c.cut.result c.bound-number.ensures.value (rw plain at c.cut.ensures.narrows); well_formed = c.bound-number.ensures.well_formed }
