-- Products of numbers of two ranges, and the products of the bounds.
use Rattle.std.proofs.Common.{◌≡◌, ℤ, ◌*ℤ◌, ◌≤ℤ◌, arith}
use Rattle.std.proofs.lemmas.Int.{ints, clamps}
use Rattle.std.proofs.Math.IntN.{*ℤ_comm}
use Rattle.fzn_model.proofs.Products.{product_low, product_high}
use Rattle.dom_store.specs.declared.extreme.Extreme.{Extreme}
use Rattle.dom_store.specs.declared.extreme.Extreme.TheVariants as extreme
use Rattle.dom_store.specs.Extremes.{Bounds}
use Rattle.arith_prop.specs.Corners.{pick_by, corner}

-- a number of a range
pub record IsBetween (a : ℤ × ℤ) (x : ℤ) : Type 0 where
  pub above : a.0 ≤ℤ x
  pub below : x ≤ℤ a.1

second_bounded : (e : Extreme) (f : ℤ) (a : ℤ × ℤ) (x : ℤ) → IsBetween a x → Bounds e (pick_by e (f *ℤ a.0) (f *ℤ a.1)) (f *ℤ x)
second_bounded extreme.Least f a x between = product_low f a.0 a.1 x between.above between.below
second_bounded extreme.Greatest f a x between = product_high f a.0 a.1 x between.above between.below

-- turned round
first_bounded : (e : Extreme) (f : ℤ) (a : ℤ × ℤ) (x : ℤ) → IsBetween a x → Bounds e (pick_by e (a.0 *ℤ f) (a.1 *ℤ f)) (x *ℤ f)
first_bounded e f a x between = rw (*ℤ_comm a.0 f, *ℤ_comm a.1 f, *ℤ_comm x f) (second_bounded e f a x between)

of_four : (e : Extreme) (p q r s x y z : ℤ) → Bounds e (pick_by e p r) x → Bounds e (pick_by e q s) y → Bounds e (pick_by e x y) z → Bounds e (pick_by e (pick_by e p q) (pick_by e r s)) z
of_four extreme.Least p q r s x y z left right both = omega (arith, ints, clamps)
of_four extreme.Greatest p q r s x y z left right both = omega (arith, ints, clamps)

pub product_bounded : (e : Extreme) (a b : ℤ × ℤ) (x y : ℤ) → IsBetween a x → IsBetween b y → Bounds e (corner e a b) (x *ℤ y)
unfolding corner
product_bounded e a b x y first second =
    of_four e (a.0 *ℤ b.0) (a.0 *ℤ b.1) (a.1 *ℤ b.0) (a.1 *ℤ b.1) (x *ℤ b.0) (x *ℤ b.1) (x *ℤ y)
    (first_bounded e b.0 a x first) (first_bounded e b.1 a x first) (second_bounded e x b y second)

-- four equal products
four_same : (e : Extreme) (p : ℤ) → pick_by e (pick_by e p p) (pick_by e p p) ≡ p
four_same extreme.Least p = omega (arith, ints, clamps)
four_same extreme.Greatest p = omega (arith, ints, clamps)

pub one_corner : (e : Extreme) (x y : ℤ) → corner e (x, x) (y, y) ≡ x *ℤ y
unfolding corner
one_corner e x y = four_same e (x *ℤ y)
