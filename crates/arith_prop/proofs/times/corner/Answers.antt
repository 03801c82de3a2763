use Rattle.std.proofs.Common.{◌≡◌, arith, to_z, of_z}
use Rattle.std.specs.Int.{w64}
use Rattle.std.proofs.lemmas.Int.{ints}
use Rattle.arith_prop.proofs.Multiplying.{corner_is, plain}
use Rattle.arith_prop.proofs.times.corner.Goals as goal

pub returns : goal.returns
returns c =
    let p = plain c.args.a.now.0 c.requires.first.0 in
    let q = plain c.args.a.now.1 c.requires.first.1 in
    let r = plain c.args.b.now.0 c.requires.second.0 in
    let s = plain c.args.b.now.1 c.requires.second.1 in
    let v : to_z w64 (of_z w64 c.product.result) ≡ c.product.result = omega (arith, ints) in
    let w : to_z w64 (of_z w64 c.product-2.result) ≡ c.product-2.result = omega (arith, ints) in
    let x : to_z w64 (of_z w64 c.product-3.result) ≡ c.product-3.result = omega (arith, ints) in
    let y : to_z w64 (of_z w64 c.product-4.result) ≡ c.product-4.result = omega (arith, ints) in
    let one : to_z w64 (of_z w64 c.pick-first.result) ≡ c.pick-first.result = omega (arith, ints) in
    let two : to_z w64 (of_z w64 c.pick-second.result) ≡ c.pick-second.result = omega (arith, ints) in
    let all : to_z w64 (of_z w64 c.pick.result) ≡ c.pick.result = omega (arith, ints) in
    rw all (corner_is c.args.extreme c.args.a.now c.args.b.now c.product.result c.product-2.result c.product-3.result c.product-4.result c.pick-first.result c.pick-second.result c.pick.result
    (rw (p, r) at c.product.ensures) (rw (p, s) at c.product-2.ensures) (rw (q, r) at c.product-3.ensures) (rw (q, s) at c.product-4.ensures)
    (rw (v, w) at c.pick-first.ensures) (rw (x, y) at c.pick-second.ensures) (rw (one, two) at c.pick.ensures))
