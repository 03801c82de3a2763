use Rattle.std.proofs.Common.{arith, pos}
use Rattle.std.proofs.lemmas.Int.{ints, to_z-of_z}
use Rattle.fzn_model.proofs.Moments.{amount_drop}
use Rattle.rest_key.proofs.used.sum_at.Goals as goal

pub loop-part-preserved : goal.loop-part-preserved
loop-part-preserved c =
    let f = c.ranges.moment in
    let e = amount_drop c.args.used.now c.loop-part.part-index (record { from = pos 0; to = pos 0; amount = pos 0 }) c.args.moment c.loop-part-test.true in
    let told = simp to_z-of_z at c.loop-part.invariant.told in
    let more = simp to_z-of_z at c.part_at-amount.ensures.value in
    record { told = simp to_z-of_z (omega (arith, ints, e, told, more)); low = omega (arith, ints); high = omega (arith, ints) }
