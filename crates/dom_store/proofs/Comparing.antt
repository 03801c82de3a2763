-- Tests of signed numbers, and the least and the greatest of two.
use Rattle.std.proofs.Common.{◌≡◌, ◌⊎◌, arith, refl, Bool, true, false, inl, inr}
use Rattle.std.specs.Prelude.{ℤ, ◌≤ℤ◌, ◌<ℤ◌, int_lt, int_le}
use Rattle.std.specs.Int.{int_min, int_max}
use Rattle.std.proofs.lemmas.Int.{ints}

pub lt_test : (a b : ℤ) → int_lt a b ≡ true → a <ℤ b
lt_test a b e = grind (arith, ints)

pub test_lt : (a b : ℤ) → a <ℤ b → int_lt a b ≡ true
test_lt a b h = grind (arith, ints)

pub lt_fails : (a b : ℤ) → int_lt a b ≡ false → b ≤ℤ a
lt_fails a b e = grind (arith, ints)

pub le_test : (a b : ℤ) → int_le a b ≡ true → a ≤ℤ b
le_test a b e = grind (arith, ints)

pub test_le : (a b : ℤ) → a ≤ℤ b → int_le a b ≡ true
test_le a b h = grind (arith, ints)

pub le_fails : (a b : ℤ) → int_le a b ≡ false → b <ℤ a
le_fails a b e = grind (arith, ints)

pub below_or_from : (a b : ℤ) → (a <ℤ b) ⊎ (b ≤ℤ a)
below_or_from a b = by_test (int_lt a b) refl
  where
    by_test : (t : Bool) → int_lt a b ≡ t → (a <ℤ b) ⊎ (b ≤ℤ a)
    by_test true is = inl (lt_test a b is)
    by_test false is = inr (lt_fails a b is)

pub max_first : (number a b : ℤ) → number ≡ int_max a b → a ≤ℤ number
max_first number a b is = grind (arith, ints)

pub max_second : (number a b : ℤ) → number ≡ int_max a b → b ≤ℤ number
max_second number a b is = grind (arith, ints)

pub max_least : (number a b z : ℤ) → number ≡ int_max a b → a ≤ℤ z → b ≤ℤ z → number ≤ℤ z
max_least number a b z is h k = grind (arith, ints)

pub min_first : (number a b : ℤ) → number ≡ int_min a b → number ≤ℤ a
min_first number a b is = grind (arith, ints)

pub min_second : (number a b : ℤ) → number ≡ int_min a b → number ≤ℤ b
min_second number a b is = grind (arith, ints)

pub min_greatest : (number a b z : ℤ) → number ≡ int_min a b → z ≤ℤ a → z ≤ℤ b → z ≤ℤ number
min_greatest number a b z is h k = grind (arith, ints)
