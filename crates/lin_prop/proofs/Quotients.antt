-- How often a number goes into another.
use Rattle.std.proofs.Common.{◌≡◌, ◌≢◌, ℕ, zero, suc, ◌*◌, ◌<◌, ◌≤◌, ℤ, pos, negsuc, ◌+ℤ◌, ◌-ℤ◌, ◌*ℤ◌, ◌≤ℤ◌, ◌<ℤ◌, refl, sym, ap, ◌∙◌, subst, arith}
use Rattle.std.specs.Prelude.{int_div, int_rem, unsigned_abs}
use Rattle.std.proofs.lemmas.Int.{ints, quot-rem, rem_below, unsigned_abs-mul}
use Rattle.std.proofs.Math.Nat.{div-add-mod', mod-lt, mul_comm, mul-le-mul}
use Rattle.std.proofs.Math.IntN.{*ℤ_comm}
use Rattle.fzn_model.specs.Limits.{IsValue}
use Rattle.lin_prop.specs.Different.{Excludes}
use Rattle.fzn_model.proofs.Products.{up_mono, dist_minus}

pub quotient : (n d : ℤ) → pos 0 ≤ℤ n → pos 0 <ℤ d → (pos 0 ≤ℤ int_div n d) × ((d *ℤ int_div n d) ≤ℤ n) × (n <ℤ (d *ℤ (int_div n d +ℤ pos 1)))
quotient (pos n) (pos d) h k =
    let whole = div-add-mod' n d in
    let rest = mod-lt n {m = d} (omega (arith, ints, k)) in
    (omega (arith, ints), omega (arith, ints, whole), omega (arith, ints, whole, rest))
quotient (pos n) (negsuc d) h k = absurd (omega (arith, ints, k))
quotient (negsuc n) d h k = absurd (omega (arith, ints, h))

-- fewer go in too
pub fewer : (n d many few : ℤ) → pos 0 <ℤ d → few ≤ℤ many → (d *ℤ many) ≤ℤ n → (d *ℤ few) ≤ℤ n
fewer n (pos d) many few k h fits = let less = up_mono d few many h in omega (arith, ints, less, fits)
fewer n (negsuc d) many few k h fits = absurd (omega (arith, ints, k))

-- a product is divided by its factor
no_part : (n m : ℕ) → n * m < m → n ≡ 0
no_part zero m h = refl
no_part (suc n) m h = absurd (omega (arith, h))

size_some : (f : ℤ) → f ≢ pos 0 → 0 < unsigned_abs f
size_some (pos zero) h = absurd (h refl)
size_some (pos (suc n)) h = omega arith
size_some (negsuc n) h = omega arith

zero_of : (z : ℤ) → unsigned_abs z ≡ 0 → z ≡ pos 0
zero_of (pos n) e = ap (λ k. pos k) e
zero_of (negsuc n) e = absurd (omega (arith, e))

no_size : (v q : ℤ) → unsigned_abs (v -ℤ q) ≡ 0 → q ≡ v
no_size v q e = let z : v -ℤ q ≡ pos 0 = zero_of (v -ℤ q) e in omega (arith, ints, z)

pub exact : (f v a : ℤ) → f ≢ pos 0 → f *ℤ v ≡ a → int_div a f ≡ v
exact f v a some e =
    let q = int_div a f in
    let whole : q *ℤ f +ℤ int_rem a f ≡ a = quot-rem a f in
    let below : unsigned_abs (int_rem a f) < unsigned_abs f = rem_below a f (size_some f some) in
    let turn : q *ℤ f ≡ f *ℤ q = *ℤ_comm q f in
    let minus : f *ℤ (v -ℤ q) ≡ (f *ℤ v) -ℤ (f *ℤ q) = dist_minus f v q in
    let rest : int_rem a f ≡ f *ℤ (v -ℤ q) = omega (arith, ints, whole, turn, minus, e) in
    let size : unsigned_abs (int_rem a f) ≡ unsigned_abs f * unsigned_abs (v -ℤ q) = ap (λ x. unsigned_abs x) rest ∙ unsigned_abs-mul f (v -ℤ q) in
    let none : unsigned_abs (v -ℤ q) ≡ 0 = no_part _ (unsigned_abs f) (omega (arith, size, below, mul_comm (unsigned_abs f) (unsigned_abs (v -ℤ q)))) in
    no_size v q none

-- a quotient that isn't a value, or doesn't give the product, shows that no value does
pub excluded_range : (f a : ℤ) → f ≢ pos 0 → (IsValue (int_div a f) → ⊥) → Excludes f a
unfolding Excludes
excluded_range f a some far v value e = far (subst IsValue (sym (exact f v a some e)) value)

pub excluded_product : (f a q : ℤ) → f ≢ pos 0 → q ≡ int_div a f → (q *ℤ f ≡ a → ⊥) → Excludes f a
unfolding Excludes
excluded_product f a q some is differs v value e = differs (ap (λ x. x *ℤ f) (is ∙ exact f v a some e) ∙ *ℤ_comm v f ∙ e)

-- a product of a coefficient and a value isn't large
pub excluded_far : (f a : ℤ) → IsValue f → 1000000 * 1000000 < unsigned_abs a → Excludes f a
unfolding Excludes
excluded_far f a factor far v value e =
    let size : unsigned_abs a ≡ unsigned_abs f * unsigned_abs v = ap (λ x. unsigned_abs x) (sym e) ∙ unsigned_abs-mul f v in
    let most : unsigned_abs f * unsigned_abs v ≤ 1000000 * 1000000 = mul-le-mul factor value in
    omega (arith, size, most, far)
