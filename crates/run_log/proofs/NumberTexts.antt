-- The text of a number.
use Rattle.std.proofs.Common.{◌≡◌, ℕ, zero, suc, ◌<◌, ◌^◌, List, [], ◌∷◌, refl, arith, ap, sym, ◌∙◌, subst, ℤ, pos, negsuc, neg_ℤ}
use Rattle.std.specs.Prelude.{FitsSigned, Result, Ok, IsAscii}
use Rattle.std.specs.Int.{w128}
use Rattle.std.specs.Fmt.{decimal, signed_decimal}
use Rattle.std.specs.Char.{digit_value}
use Rattle.std.specs.Str.{IsUtf8}
use Rattle.std.specs.Str.Parse.{AllDigits, ParsesSigned, digits_value}
use Rattle.std.proofs.lemmas.Fmt.{decimal_is_IsNumeral_wide, IsAscii-from_digits}
use Rattle.std.proofs.lemmas.List.Elements.{All-cons, All-nil}
use Rattle.std.proofs.lemmas.Result.{Ok-from_Ok_iff}
use Rattle.std.proofs.lemmas.Str.{IsUtf8-from_ascii}
use Rattle.std.proofs.lemmas.Str.Parse.{numerals_by_value, tells_digits, parse_signed_minus, parse_signed_digits}
use Rattle.run_log.specs.Steps.{Lacks, Differs, IsNumber}

-- a byte that is no digit isn't among digits
lacks_digits : (byte : ℕ) (ds : List ℕ) → (digit_value byte < 10 → ⊥) → AllDigits 10 ds → Lacks byte ds
lacks_digits byte [] none h = All-nil (Differs byte)
lacks_digits byte (d ∷ ds) none h = All-cons (Differs byte) d ds (λ e. none (subst (λ (c : ℕ). digit_value c < 10) e h.0)) (lacks_digits byte ds none h.1)

wide : (n : ℕ) → n < 2 ^ 127 → n < 10 ^ 64
wide n h = omega arith

wider : (n : ℕ) → n < 2 ^ 127 → suc n < 10 ^ 64
wider n h = omega arith

-- neither a space nor a line feed
pub number_lacks : (byte : ℕ) (z : ℤ) → (digit_value byte < 10 → ⊥) → (45 ≡ byte → ⊥) → FitsSigned w128 z → Lacks byte (signed_decimal z)
number_lacks byte (pos n) none sign f = lacks_digits byte _ none (decimal_is_IsNumeral_wide n (wide n f.sfits)).0.1
number_lacks byte (negsuc n) none sign f = All-cons (Differs byte) 45 _ sign (lacks_digits byte _ none (decimal_is_IsNumeral_wide (suc n) (wider n f.sfits)).0.1)

same_natural : (m n : ℕ) → m < 10 ^ 64 → n < 10 ^ 64 → decimal m ≡ decimal n → m ≡ n
same_natural m n f g e = sym (decimal_is_IsNumeral_wide m f).1 ∙ ap (digits_value 10) e ∙ (decimal_is_IsNumeral_wide n g).1

pub same_number : (y z : ℤ) → FitsSigned w128 y → FitsSigned w128 z → signed_decimal y ≡ signed_decimal z → y ≡ z
same_number (pos m) (pos n) f g e = ap pos (same_natural m n (wide m f.sfits) (wide n g.sfits) e)
same_number (pos m) (negsuc n) f g e =
    let digits : AllDigits 10 (45 ∷ decimal (suc n)) = subst (AllDigits 10) e (decimal_is_IsNumeral_wide m (wide m f.sfits)).0.1 in
    absurd (omega (arith, digits.0))
same_number (negsuc m) (pos n) f g e =
    let digits : AllDigits 10 (45 ∷ decimal (suc m)) = subst (AllDigits 10) (sym e) (decimal_is_IsNumeral_wide n (wide n g.sfits)).0.1 in
    absurd (omega (arith, digits.0))
same_number (negsuc m) (negsuc n) f g e =
    let tails : decimal (suc m) ≡ decimal (suc n) = cc in
    let same = same_natural (suc m) (suc n) (wider m f.sfits) (wider n g.sfits) tails in
    ap negsuc (omega (arith, same))

-- it is text
ascii_sign : (ds : List ℕ) → IsAscii ds → IsAscii (45 ∷ ds)
ascii_sign ds h zero = omega arith
ascii_sign ds h (suc i) = h i

ascii : (z : ℤ) → FitsSigned w128 z → IsAscii (signed_decimal z)
ascii (pos n) f = IsAscii-from_digits _ (decimal_is_IsNumeral_wide n (wide n f.sfits)).0.1
ascii (negsuc n) f = ascii_sign _ (IsAscii-from_digits _ (decimal_is_IsNumeral_wide (suc n) (wider n f.sfits)).0.1)

pub is_text : (word : List ℕ) (z : ℤ) → IsNumber word z → IsUtf8 word
is_text word z h = IsUtf8-from_ascii word (subst IsAscii h.text (ascii z h.fits))

-- what parsing reads
parses : {E : Type 0} (z : ℤ) (r : Result ℤ E) → FitsSigned w128 z → ParsesSigned w128 10 (signed_decimal z) r → r ≡ Ok z
parses (pos n) r fits h =
    let k = decimal_is_IsNumeral_wide n (wide n fits.sfits) in
    let read = parse_signed_digits (numerals_by_value _ tells_digits) w128 (decimal n) r h k.0.1 in
    Ok-from_Ok_iff r _ _ read (k.0.0, omega (arith, k.1, fits.sfits)) ∙ ap (λ m. Ok (pos m)) k.1
parses (negsuc n) r fits h =
    let k = decimal_is_IsNumeral_wide (suc n) (wider n fits.sfits) in
    let read = parse_signed_minus (numerals_by_value _ tells_digits) w128 (45 ∷ decimal (suc n)) r h refl in
    Ok-from_Ok_iff r _ _ read (k.0.1, k.0.0, omega (arith, k.1, fits.sfits)) ∙ ap (λ m. Ok (neg_ℤ (pos m))) k.1

pub reads : {E : Type 0} (word : List ℕ) (z : ℤ) (r : Result ℤ E) → IsNumber word z → ParsesSigned w128 10 word r → r ≡ Ok z
reads word z r n h = parses z r n.fits (subst (λ (w : List ℕ). ParsesSigned w128 10 w r) (sym n.text) h)
