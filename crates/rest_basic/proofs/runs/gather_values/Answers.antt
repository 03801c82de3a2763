use Rattle.std.proofs.Common.{◌≡◌, arith, to_z, of_z}
use Rattle.std.specs.Prelude.{◌∷◌, [], pos, ◌+ℤ◌, ◌<ℤ◌}
use Rattle.std.specs.Int.{w64}
use Rattle.std.proofs.lemmas.Int.{ints, to_z-of_z}
use Rattle.rest_basic.proofs.GatheredRuns.{gathered_none}
use Rattle.rest_basic.proofs.WholeDomains.{gathered_values}
use Rattle.rest_basic.proofs.runs.gather_values.Goals as goal

pub loop-number-init : goal.loop-number-init
loop-number-init g c =
    let low : to_z w64 (of_z w64 c.args.low) ≡ c.args.low = to_z-of_z w64 c.args.low c.ranges.low in
    rw (low, c.requires.low, c.new-runs.ensures.items) (gathered_none (g.V.BoxView.shape c.args.view.now) c.args.x (c.args.bounds.now ∷ []) c.requires.well_formed)

pub loop-number-preserved : goal.loop-number-preserved
loop-number-preserved g c =
    let next : to_z w64 (of_z w64 (to_z w64 c.loop-number.number-counter-bits +ℤ pos 1)) ≡ to_z w64 c.loop-number.number-counter-bits +ℤ pos 1 = omega (arith, ints) in
    rw next c.in_ok-gather_value.ensures

pub returns : goal.returns
returns g c =
    let end : to_z w64 (of_z w64 c.args.end) ≡ c.args.end = to_z-of_z w64 c.args.end c.ranges.end in
    let past : c.args.bounds.now.1 <ℤ to_z w64 c.loop-number.number-counter-bits = omega (arith, ints, end) in
    rw c.from_vec.ensures (gathered_values (g.V.BoxView.shape c.args.view.now) c.args.x c.args.bounds.now (to_z w64 c.loop-number.number-counter-bits) c.loop-number.runs.items c.requires.well_formed c.requires.least c.requires.greatest past c.loop-number.invariant)
