-- Sums that are cut off at a greatest number.
use Rattle.std.proofs.Common.{◌≡◌, ℕ, ◌+◌, ◌*◌, ◌<◌, ◌≤◌, min, inl, inr, arith, ap, mul_comm}
use Rattle.std.proofs.Math.Nat.{le-mul_of_pos_right, zero-mul}
use Rattle.std.proofs.lemmas.Bool.{cases_lt}

pub capped_step : (a base d top n : ℕ) → 0 < base → n ≡ min a top → min (n * base + d) top ≡ min (a * base + d) top
capped_step a base d top n some e =
    elim (cases_lt a top) [
      | inl h ↦ (let same : n ≡ a = omega arith in ap (λ (k : ℕ). min (k * base + d) top) same)
      | inr h ↦ (let p : n ≤ n * base = le-mul_of_pos_right n some in let q : a ≤ a * base = le-mul_of_pos_right a some in omega (arith, p, q))
    ]

pub capped_product : (r a b top : ℕ) → 0 < top → b ≡ min a top → min (r * b) top ≡ min (r * a) top
capped_product r a b top some e =
    elim (cases_lt a top) [
      | inl h ↦ (let same : b ≡ a = omega arith in ap (λ (k : ℕ). min (r * k) top) same)
      | inr h ↦ elim (cases_lt 0 r) [
        | inl s ↦ (let p : b ≤ r * b = rw (mul_comm r b) (le-mul_of_pos_right b s) in let q : a ≤ r * a = rw (mul_comm r a) (le-mul_of_pos_right a s) in omega (arith, p, q))
        | inr z ↦ (let none : r ≡ 0 = omega arith in let p : r * b ≡ 0 = rw none (zero-mul b) in let q : r * a ≡ 0 = rw none (zero-mul a) in omega (arith, p, q))
      ]
    ]
