use Rattle.std.proofs.Common.{arith, pos, rules, FitsSigned}
use Rattle.std.specs.Int.{w128}
use Rattle.std.proofs.lemmas.Int.{ints, to_z-of_z}
use Rattle.fzn_model.proofs.Moments.{amount_drop}
use Rattle.cumul_prop.proofs.parts.load.Goals as goal

pub loop-one-preserved : goal.loop-one-preserved
loop-one-preserved c =
    let f : FitsSigned w128 c.at-load.result = search rules in
    let e = amount_drop c.args.all.now c.loop-one.one-index (record { from = pos 0; to = pos 0; amount = pos 0 }) c.args.moment.now c.loop-one-test.true in
    let told = c.loop-one.invariant.told in
    let more = c.at-load.ensures.value in
    record { told = simp to_z-of_z (omega (arith, ints, e, told, more)); low = omega (arith, ints); high = omega (arith, ints) }
