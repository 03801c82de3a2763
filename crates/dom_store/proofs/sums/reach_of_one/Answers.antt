use Rattle.std.proofs.Common.{◌≡◌, ◌≤◌, ◌-ℤ◌, to_z, of_z, ◌∙◌, rules, arith}
use Rattle.std.specs.Prelude.{unsigned_abs}
use Rattle.std.specs.Int.{w64}
use Rattle.std.proofs.lemmas.Int.{ints, clamps}
use Rattle.fzn_model.specs.Bounds.{scaled_low, scaled_high}
use Rattle.dom_store.proofs.sums.reach_of_one.Goals as goal

pub returns-clause-rise : goal.returns-clause-rise
returns-clause-rise c =
    let small_low : unsigned_abs c.min-low.result ≤ 1000000000000 = omega (arith, ints, clamps) in
    let small_high : unsigned_abs c.max-high.result ≤ 1000000000000 = omega (arith, ints, clamps) in
    let low : to_z w64 (of_z w64 c.min-low.result) ≡ c.min-low.result = omega (arith, ints) in
    let high : to_z w64 (of_z w64 c.max-high.result) ≡ c.max-high.result = omega (arith, ints) in
    let rise : to_z w64 (of_z w64 (c.max-high.result -ℤ c.min-low.result)) ≡ c.max-high.result -ℤ c.min-low.result = omega (arith, ints) in
    let low_is : to_z w64 (of_z w64 c.min-low.result) ≡ scaled_low c.args.store.now.box c.args.scaled.now = search rules in
    let high_is : to_z w64 (of_z w64 c.max-high.result) ≡ scaled_high c.args.store.now.box c.args.scaled.now = search rules in
    rw (low, high) (rise ∙ omega (arith, ints, low, high, low_is, high_is))

pub returns-clause-small_high : goal.returns-clause-small_high
returns-clause-small_high c = omega (arith, ints, clamps)
