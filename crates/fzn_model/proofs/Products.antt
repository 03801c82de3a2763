-- Products of whole numbers, and their order.
use Rattle.std.proofs.Common.{◌≡◌, ℕ, zero, suc, ◌*◌, ◌≤◌, ℤ, pos, negsuc, neg_ℤ, ◌+ℤ◌, ◌-ℤ◌, ◌*ℤ◌, ◌≤ℤ◌, ◌<ℤ◌, sym, ap, ◌∙◌, arith}
use Rattle.std.specs.Int.{int_min, int_max}
use Rattle.std.proofs.lemmas.Int.{ints, clamps}
use Rattle.std.proofs.Math.Nat.{mul-le-mul_left}
use Rattle.std.proofs.Math.IntN.{zero-*ℤ, suc_ℤ-*ℤ, *ℤ_comm, *ℤ-negsuc}

pub up_mono : (n : ℕ) (a b : ℤ) → a ≤ℤ b → (pos n *ℤ a) ≤ℤ (pos n *ℤ b)
up_mono n (pos x) (pos y) h =
    let m : n * x ≤ n * y = mul-le-mul_left n (omega (arith, ints, h)) in
    omega (arith, ints, m)
up_mono n (pos x) (negsuc y) h = absurd (omega (arith, ints, h))
up_mono n (negsuc x) (pos y) h = omega (arith, ints)
up_mono n (negsuc x) (negsuc y) h =
    let m : n * y ≤ n * x = mul-le-mul_left n (omega (arith, ints, h)) in
    omega (arith, ints, m)

pub down_mono : (n : ℕ) (a b : ℤ) → a ≤ℤ b → (negsuc n *ℤ b) ≤ℤ (negsuc n *ℤ a)
down_mono n a b h = let m = up_mono (suc n) a b h in omega (arith, ints, m)

min_left : (x y : ℤ) → x ≤ℤ y → int_min x y ≡ x
min_left x y h = omega (arith, ints, clamps)

min_right : (x y : ℤ) → y ≤ℤ x → int_min x y ≡ y
min_right x y h = omega (arith, ints, clamps)

-- a product is bounded by those with the bounds of its second number
pub low_up : (f low high : ℤ) → pos 0 ≤ℤ f → low ≤ℤ high → int_min (f *ℤ low) (f *ℤ high) ≡ f *ℤ low
low_up (pos n) low high h o = min_left _ _ (up_mono n low high o)
low_up (negsuc n) low high h o = absurd (omega (arith, ints, h))

pub low_down : (f low high : ℤ) → f <ℤ pos 0 → low ≤ℤ high → int_min (f *ℤ low) (f *ℤ high) ≡ f *ℤ high
low_down (pos n) low high h o = absurd (omega (arith, ints, h))
low_down (negsuc n) low high h o = min_right _ _ (down_mono n low high o)

max_left : (x y : ℤ) → y ≤ℤ x → int_max x y ≡ x
max_left x y h = omega (arith, ints, clamps)

max_right : (x y : ℤ) → x ≤ℤ y → int_max x y ≡ y
max_right x y h = omega (arith, ints, clamps)

pub high_up : (f low high : ℤ) → pos 0 ≤ℤ f → low ≤ℤ high → int_max (f *ℤ low) (f *ℤ high) ≡ f *ℤ high
high_up (pos n) low high h o = max_right _ _ (up_mono n low high o)
high_up (negsuc n) low high h o = absurd (omega (arith, ints, h))

pub high_down : (f low high : ℤ) → f <ℤ pos 0 → low ≤ℤ high → int_max (f *ℤ low) (f *ℤ high) ≡ f *ℤ low
high_down (pos n) low high h o = absurd (omega (arith, ints, h))
high_down (negsuc n) low high h o = max_left _ _ (down_mono n low high o)

-- a product with a sum is the sum of the products
up_dist : (n : ℕ) (a b : ℤ) → pos n *ℤ (a +ℤ b) ≡ (pos n *ℤ a) +ℤ (pos n *ℤ b)
up_dist zero a b = zero-*ℤ (a +ℤ b) ∙ sym (ap (λ x. x +ℤ (pos 0 *ℤ b)) (zero-*ℤ a) ∙ ap (λ x. pos 0 +ℤ x) (zero-*ℤ b))
up_dist (suc n) a b =
    let whole : pos (suc n) *ℤ (a +ℤ b) ≡ pos n *ℤ (a +ℤ b) +ℤ (a +ℤ b) = suc_ℤ-*ℤ (pos n) (a +ℤ b) in
    let first : pos (suc n) *ℤ a ≡ pos n *ℤ a +ℤ a = suc_ℤ-*ℤ (pos n) a in
    let second : pos (suc n) *ℤ b ≡ pos n *ℤ b +ℤ b = suc_ℤ-*ℤ (pos n) b in
    let less = up_dist n a b in
    omega (arith, ints, whole, first, second, less)

pub negative_times : (n : ℕ) (a : ℤ) → negsuc n *ℤ a ≡ neg_ℤ (pos (suc n) *ℤ a)
negative_times n a = *ℤ_comm (negsuc n) a ∙ *ℤ-negsuc a n ∙ ap (λ x. neg_ℤ x) (*ℤ_comm a (pos (suc n)))

pub dist : (f a b : ℤ) → f *ℤ (a +ℤ b) ≡ (f *ℤ a) +ℤ (f *ℤ b)
dist (pos n) a b = up_dist n a b
dist (negsuc n) a b =
    let whole = up_dist (suc n) a b in
    let t = negative_times n (a +ℤ b) in let u = negative_times n a in let v = negative_times n b in
    omega (arith, ints, whole, t, u, v)

pub dist_minus : (f a b : ℤ) → f *ℤ (a -ℤ b) ≡ (f *ℤ a) -ℤ (f *ℤ b)
dist_minus f a b =
    let whole : f *ℤ ((a -ℤ b) +ℤ b) ≡ (f *ℤ (a -ℤ b)) +ℤ (f *ℤ b) = dist f (a -ℤ b) b in
    let same : (a -ℤ b) +ℤ b ≡ a = omega (arith, ints) in
    let e : f *ℤ ((a -ℤ b) +ℤ b) ≡ f *ℤ a = ap (λ x. f *ℤ x) same in
    omega (arith, ints, whole, e)

-- a product lies between those with the bounds of its second number
min_below : (x y z : ℤ) → x ≤ℤ z → int_min x y ≤ℤ z
min_below x y z h = omega (arith, ints, clamps)

min_below_right : (x y z : ℤ) → y ≤ℤ z → int_min x y ≤ℤ z
min_below_right x y z h = omega (arith, ints, clamps)

max_above : (x y z : ℤ) → z ≤ℤ x → z ≤ℤ int_max x y
max_above x y z h = omega (arith, ints, clamps)

max_above_right : (x y z : ℤ) → z ≤ℤ y → z ≤ℤ int_max x y
max_above_right x y z h = omega (arith, ints, clamps)

pub product_low : (f low high v : ℤ) → low ≤ℤ v → v ≤ℤ high → int_min (f *ℤ low) (f *ℤ high) ≤ℤ (f *ℤ v)
product_low (pos n) low high v above below = min_below _ _ _ (up_mono n low v above)
product_low (negsuc n) low high v above below = min_below_right _ _ _ (down_mono n v high below)

pub product_high : (f low high v : ℤ) → low ≤ℤ v → v ≤ℤ high → (f *ℤ v) ≤ℤ int_max (f *ℤ low) (f *ℤ high)
product_high (pos n) low high v above below = max_above_right _ _ _ (up_mono n v high below)
product_high (negsuc n) low high v above below = max_above _ _ _ (down_mono n low v above)
