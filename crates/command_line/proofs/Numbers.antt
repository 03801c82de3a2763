-- Decimal digits, and the number that they write.
use Rattle.std.proofs.Common.{◌≡◌, ℕ, ◌+◌, ◌*◌, ◌^◌, ◌<◌, ◌≤◌, Bool, true, false, ◌&&◌, List, [], ◌∷◌, length, refl, arith, sym, ◌∙◌, ap, subst, inl, inr}
use Rattle.std.specs.Prelude.{Option, Some, None, Result, Ok, Err, ◌⊎◌, if◌then◌else◌, nat_lt, nat_le}
use Rattle.std.specs.List.{list_all}
use Rattle.std.specs.Result.{OkIff, result_ok}
use Rattle.std.specs.Char.{digit_value}
use Rattle.std.specs.Str.Parse.{digits_value, AllDigits, IsNumeral, ParsesUnsigned, without_leading_plus}
use Rattle.std.proofs.lemmas.Int.Digits.{digits_value-lt}
use Rattle.std.proofs.lemmas.Bool.Decides.{nat_tests}
use Rattle.std.proofs.Math.Nat.{pow-le-pow_right}
use Rattle.command_line.specs.Lines.{is_digit, is_number}

both : (a b : Bool) → (a && b) ≡ true → (a ≡ true) × (b ≡ true)
both true b h = (refl, h)
both false b h = absurd (cc)

digit : (c : ℕ) → is_digit c ≡ true → digit_value c < 10
digit c h = grind (arith, nat_tests)

all_digits : (text : List ℕ) → list_all is_digit text ≡ true → AllDigits 10 text
all_digits [] h = tt
all_digits (c ∷ cs) h = let (first, rest) = both (is_digit c) (list_all is_digit cs) h in (digit c first, all_digits cs rest)

plain : (text : List ℕ) → list_all is_digit text ≡ true → without_leading_plus text ≡ text
plain [] h = refl
plain (c ∷ cs) h = grind (arith, nat_tests)

small : (text : List ℕ) → AllDigits 10 text → length text < 20 → digits_value 10 text < 2 ^ 64
small text h n =
    let below : digits_value 10 text < 10 ^ length text = digits_value-lt 10 text h in
    let power : 10 ^ length text ≤ 10 ^ 19 = pow-le-pow_right {n = 10} (omega arith) {i = length text} {j = 19} (omega (arith, n)) in
    omega (arith, below, power)

read : (text : List ℕ) {E : Type 0} (r : Result ℕ E) → length text < 20 → list_all is_digit text ≡ true → OkIff r (IsNumeral 10 text × (digits_value 10 text < 2 ^ 64)) (digits_value 10 text) → result_ok r ≡ (if is_number text then Some (digits_value 10 text) else None)
read [] (Ok x) n h (p, e) = absurd (omega (arith, p.0.0))
read [] (Err x) n h p = refl
read (c ∷ cs) (Ok x) n h (p, e) = rw e (grind (arith, nat_tests))
read (c ∷ cs) (Err x) n h p = absurd (p ((omega arith, all_digits (c ∷ cs) h), small (c ∷ cs) (all_digits (c ∷ cs) h) n))

-- what parsing reads, where each byte is a digit
pub reads : (text : List ℕ) {E : Type 0} (r : Result ℕ E) → length text < 20 → list_all is_digit text ≡ true → ParsesUnsigned 64 10 text r → result_ok r ≡ (if is_number text then Some (digits_value 10 text) else None)
reads text r n h p = read text r n h (subst (λ (ds : List ℕ). OkIff r (IsNumeral 10 ds × (digits_value 10 ds < 2 ^ 64)) (digits_value 10 ds)) (plain text h) p)
