use Rattle.std.proofs.Common.{◌≡◌, ap, arith, to_z, of_z}
use Rattle.std.specs.Int.{w64}
use Rattle.std.proofs.lemmas.Int.{ints}
use Rattle.arith_prop.proofs.Dividing.{zero_passes, fixed_passes}
use Rattle.arith_prop.proofs.division.fix_result.Goals as goal

pub returns-then-args-eq0 : goal.returns-then-args-eq0
returns-then-args-eq0 c =
    let range = c.requires.only.divisor.range in
    zero_passes c.args.part c.args.a c.args.b c.args.c c.args.store.now c.args.args.now c.requires.terms c.requires.well_formed c.requires.only (omega (arith, ints, range, c.if-args-eq0.true))

pub returns : goal.returns
returns c =
    let plain : to_z w64 (of_z w64 c.divided.result) ≡ c.divided.result = omega (arith, ints) in
    fixed_passes c.args.part c.args.a c.args.b c.args.c c.args.store.now c.fix.new.store c.args.args.now c.divided.result c.fix.result
    c.requires.terms c.requires.well_formed c.requires.only (λ zero. c.if-args-eq0.false (ap (of_z w64) zero)) c.divided.ensures (rw plain at c.fix.ensures.narrows)
