-- The longest real, and that it is longer than the longest number.
use Rattle.std.proofs.Common.{◌≡◌, ℕ, zero, suc, ◌+◌, ◌<◌, ◌≤◌, List, [], ◌∷◌, ◌++◌, Bool, true, false, cond, length, take, drop, refl, ap, arith, inl, inr, append_assoc}
use Rattle.std.specs.Prelude.{◌==◌}
use Rattle.std.specs.List.{prefix_len}
use Rattle.std.proofs.lemmas.Bool.Decides.{nat_tests}
use Rattle.std.proofs.lemmas.List.{length-append}
use Rattle.std.proofs.Math.Seq.{take-add, drop-append_seam}
use Rattle.fzn_lexer.specs.Spelling.{IsRun, IsMaybeAfter, IsJoined, IsFraction, IsExponent, IsTail, IsReal, IsUnsigned}
use Rattle.fzn_lexer.specs.Scan.{first_byte, behind, or_else, based_len, unsigned_len, number_len, fraction_len, signed_len, exponent_len, tail_len, decimal_len, real_len}
use Rattle.fzn_lexer.specs.Bytes.{is_digit, is_hex, is_octal, is_x, is_o, is_minus, is_sign, is_point, is_e}
use Rattle.fzn_lexer.proofs.Fronts.{Fronts, StopsAt, fronts_run, fronts_after, fronts_maybe, run_is, run_all, behind_more, behind_some, behind_one}
use Rattle.fzn_lexer.proofs.LongestNumber.{run_first, digit_not_minus, based_is, based_begins}

fronts_fraction : Fronts IsFraction fraction_len
unfolding fraction_len
fronts_fraction = fronts_after is_point refl (IsRun is_digit) (prefix_len is_digit) (fronts_run is_digit)

digit_not_sign : (c : ℕ) → is_digit c ≡ true → is_sign c ≡ false
digit_not_sign c h = grind (arith, nat_tests)

digit_at : (w : List ℕ) → IsRun is_digit w → is_digit (first_byte w) ≡ true
digit_at [] h = absurd h
digit_at (c ∷ w) h = h.0

fronts_signed : Fronts (IsMaybeAfter is_sign (IsRun is_digit)) signed_len
unfolding signed_len
fronts_signed = fronts_maybe is_sign refl (IsRun is_digit) (prefix_len is_digit) (fronts_run is_digit) (λ w h. digit_not_sign (first_byte w) (digit_at w h))

fronts_exponent : Fronts IsExponent exponent_len
unfolding exponent_len
fronts_exponent = fronts_after is_e refl (IsMaybeAfter is_sign (IsRun is_digit)) signed_len fronts_signed

-- a tail
tail_by : (f e : ℕ) (bs : List ℕ) → (0 < f → IsFraction (take f bs)) → (0 < e → IsExponent (take e (drop f bs))) → 0 < f + e → IsTail (take (f + e) bs)
tail_by zero e bs p q h = let s : 0 + e ≡ e = omega arith in rw s (inr (inl (q (omega arith))))
tail_by (suc f) zero bs p q h = let s : suc f + 0 ≡ suc f = omega arith in rw s (inl (p (omega arith)))
tail_by (suc f) (suc e) bs p q h = inr (inr (take (suc f) bs, take (suc e) (drop (suc f) bs), p (omega arith), q (omega arith), take-add (suc f) (suc e) bs))

tail_spelled : (bs : List ℕ) → 0 < tail_len bs → IsTail (take (tail_len bs) bs)
unfolding tail_len
tail_spelled bs h =
    let f = fraction_len bs in
    tail_by f (exponent_len (drop f bs)) bs (fronts_fraction.spelled bs) (fronts_exponent.spelled (drop f bs)) h

e_not_point : (c : ℕ) → is_e c ≡ true → is_point c ≡ false
e_not_point c h = grind (arith, nat_tests)

e_not_digit : (c : ℕ) → is_e c ≡ true → is_digit c ≡ false
e_not_digit c h = grind (arith, nat_tests)

point_not_digit : (c : ℕ) → is_point c ≡ true → is_digit c ≡ false
point_not_digit c h = grind (arith, nat_tests)

-- no digit stands where an exponent or a fraction begins
exponent_stops : (w rest : List ℕ) → IsExponent w → StopsAt is_digit (w ++ rest)
exponent_stops w rest (c, u, e, h, p) = rw p (e_not_digit c e)

fraction_stops : (w rest : List ℕ) → IsFraction w → StopsAt is_digit (w ++ rest)
fraction_stops w rest (c, u, e, h, p) = rw p (point_not_digit c e)

tail_stops : (w rest : List ℕ) → IsTail w → StopsAt is_digit (w ++ rest)
tail_stops w rest (inl h) = fraction_stops w rest h
tail_stops w rest (inr (inl h)) = exponent_stops w rest h
tail_stops w rest (inr (inr (f, e, h, k, p))) = rw (p, append_assoc) (fraction_stops f (e ++ rest) h)

-- before an exponent a fraction is the longest
fraction_is : (w rest : List ℕ) → IsFraction w → StopsAt is_digit rest → fraction_len (w ++ rest) ≡ length w
unfolding fraction_len
fraction_is w rest (c, u, e, run, p) stops =
    let all = run_all is_digit u run in
    let k = run_is is_digit u rest all.0 stops in
    rw (p, e, k) (behind_one (length u) all.1)

no_fraction : (w rest : List ℕ) → IsExponent w → fraction_len (w ++ rest) ≡ 0
unfolding fraction_len
no_fraction w rest (c, u, e, h, p) = rw (p, e_not_point c e) refl

tail_within : (w rest : List ℕ) → IsTail w → length w ≤ tail_len (w ++ rest)
unfolding tail_len
tail_within w rest (inl h) = omega (arith, fronts_fraction.within w rest h)
tail_within w rest (inr (inl h)) = rw (no_fraction w rest h) (omega (arith, fronts_exponent.within w rest h))
tail_within w rest (inr (inr (f, e, h, k, p))) =
    let is = fraction_is f (e ++ rest) h (exponent_stops e rest k) in
    rw (p, append_assoc, is, drop-append_seam f (e ++ rest)) (omega (arith, fronts_exponent.within e rest k, length-append f e))

tail_some : (w : List ℕ) → IsTail w → 0 < length w
tail_some w (inl h) = fronts_fraction.some w h
tail_some w (inr (inl h)) = fronts_exponent.some w h
tail_some w (inr (inr (f, e, h, k, p))) = rw p (omega (arith, fronts_fraction.some f h, length-append f e))

-- digits and a tail
abbrev IsDecimal : List ℕ → Type 0
IsDecimal = IsJoined (IsRun is_digit) IsTail

decimal_by : (b : Bool) (n : ℕ) (bs : List ℕ) → (n == 0) ≡ b → (0 < n → IsRun is_digit (take n bs)) → 0 < cond b 0 (behind n (tail_len (drop n bs))) → IsDecimal (take (cond b 0 (behind n (tail_len (drop n bs)))) bs)
decimal_by true n bs e p h = absurd (omega arith)
decimal_by false n bs e p h =
    let t = tail_len (drop n bs) in
    let q = behind_some n t h in
    let some : 0 < n = grind (arith, nat_tests) in
    rw (behind_more n t q) (take n bs, take t (drop n bs), p some, tail_spelled (drop n bs) q, take-add n t bs)

decimal_spelled : (bs : List ℕ) → 0 < decimal_len bs → IsDecimal (take (decimal_len bs) bs)
unfolding decimal_len
decimal_spelled bs h = decimal_by (prefix_len is_digit bs == 0) (prefix_len is_digit bs) bs refl ((fronts_run is_digit).spelled bs) h

not_zero : (n : ℕ) → 0 < n → (n == 0) ≡ false
not_zero n h = grind (arith, nat_tests)

-- the length, where there are digits and a tail
decimal_is : (bs : List ℕ) (n : ℕ) → prefix_len is_digit bs ≡ n → 0 < n → 0 < tail_len (drop n bs) → decimal_len bs ≡ n + tail_len (drop n bs)
unfolding decimal_len
decimal_is bs n e p q = rw (e, not_zero n p) (behind_more n (tail_len (drop n bs)) q)

decimal_within : (w rest : List ℕ) → IsDecimal w → length w ≤ decimal_len (w ++ rest)
decimal_within w rest (d, t, run, h, p) =
    let all = run_all is_digit d run in
    let whole = run_is is_digit d (t ++ rest) all.0 (tail_stops t rest h) in
    let left = drop-append_seam d (t ++ rest) in
    let k = tail_within t rest h in
    let some : 0 < tail_len (drop (length d) (d ++ (t ++ rest))) = rw left (omega (arith, k, tail_some t h)) in
    let is = decimal_is (d ++ (t ++ rest)) (length d) whole all.1 some in
    rw (p, append_assoc, is, left) (omega (arith, k, length-append d t))

decimal_some : (w : List ℕ) → IsDecimal w → 0 < length w
decimal_some w (d, t, run, h, p) = rw p (omega (arith, tail_some t h, length-append d t))

fronts_decimal : Fronts IsDecimal decimal_len
fronts_decimal = record { spelled = decimal_spelled; within = decimal_within; some = decimal_some }

pub decimal_first : (w : List ℕ) → IsDecimal w → is_digit (first_byte w) ≡ true
decimal_first w (d, t, run, h, p) = rw p (run_first is_digit d t run)

pub fronts_real : Fronts IsReal real_len
unfolding real_len
fronts_real = fronts_maybe is_minus refl IsDecimal decimal_len fronts_decimal (λ w h. digit_not_minus (first_byte w) (decimal_first w h))

-- a real is longer than the number at its front
or_less : (n m k : ℕ) → (0 < n → ⊥) → m < k → or_else n m < k
or_less zero m k p q = q
or_less (suc n) m k p q = absurd (p (omega arith))

hex_alone : (cs : List ℕ) → decimal_len (48 ∷ 120 ∷ cs) ≡ 0
unfolding decimal_len tail_len fraction_len exponent_len
hex_alone cs = refl

octal_alone : (cs : List ℕ) → decimal_len (48 ∷ 111 ∷ cs) ≡ 0
unfolding decimal_len tail_len fraction_len exponent_len
octal_alone cs = refl

no_hex : (bs : List ℕ) → 0 < decimal_len bs → 0 < based_len is_x is_hex bs → ⊥
no_hex bs h p = let k = based_begins 120 is_hex refl bs p in omega (arith, ap decimal_len k.1, hex_alone k.0)

no_octal : (bs : List ℕ) → 0 < decimal_len bs → 0 < based_len is_o is_octal bs → ⊥
no_octal bs h p = let k = based_begins 111 is_octal refl bs p in omega (arith, ap decimal_len k.1, octal_alone k.0)

-- digits with a tail behind them are no number
pub decimal_not_unsigned : (w : List ℕ) → IsDecimal w → IsUnsigned w → ⊥
decimal_not_unsigned w (d, t, run, h, p) (inl all) =
    let one = run_is is_digit w [] (run_all is_digit w all).0 tt in
    let two = run_is is_digit d (t ++ []) (run_all is_digit d run).0 (tail_stops t [] h) in
    let same : prefix_len is_digit (w ++ []) ≡ prefix_len is_digit (d ++ (t ++ [])) = rw (p, append_assoc) refl in
    omega (arith, one, two, same, tail_some t h, ap length p, length-append d t)
decimal_not_unsigned w h (inr (inl g)) =
    let k = based_is 120 is_hex w [] g in
    omega (arith, decimal_within w [] h, decimal_some w h, ap decimal_len k.1, hex_alone k.0)
decimal_not_unsigned w h (inr (inr g)) =
    let k = based_is 111 is_octal w [] g in
    omega (arith, decimal_within w [] h, decimal_some w h, ap decimal_len k.1, octal_alone k.0)

longer_by : (b : Bool) (n t : ℕ) → 0 < cond b 0 (behind n t) → n < cond b 0 (behind n t)
longer_by true n t h = absurd (omega arith)
longer_by false n t h = let p = behind_some n t h in omega (arith, behind_more n t p, p)

digits_less : (bs : List ℕ) → 0 < decimal_len bs → prefix_len is_digit bs < decimal_len bs
unfolding decimal_len
digits_less bs h = longer_by (prefix_len is_digit bs == 0) (prefix_len is_digit bs) (tail_len (drop (prefix_len is_digit bs) bs)) h

unsigned_less : (bs : List ℕ) → 0 < decimal_len bs → unsigned_len bs < decimal_len bs
unfolding unsigned_len
unsigned_less bs h = or_less _ _ (decimal_len bs) (no_hex bs h) (or_less _ _ (decimal_len bs) (no_octal bs h) (digits_less bs h))

behind_less : (n m : ℕ) → 0 < m → n < m → behind 1 n < behind 1 m
behind_less zero m p q = rw (behind_one m p) (omega arith)
behind_less (suc n) m p q = rw (behind_one m p) (omega arith)

signed_less : (b : Bool) (bs cs : List ℕ) → 0 < cond b (behind 1 (decimal_len cs)) (decimal_len bs) → cond b (behind 1 (unsigned_len cs)) (unsigned_len bs) < cond b (behind 1 (decimal_len cs)) (decimal_len bs)
signed_less true bs cs h = let p = behind_some 1 (decimal_len cs) h in behind_less (unsigned_len cs) (decimal_len cs) p (unsigned_less cs p)
signed_less false bs cs h = unsigned_less bs h

pub number_less : (bs : List ℕ) → 0 < real_len bs → number_len bs < real_len bs
unfolding number_len real_len
number_less bs h = signed_less (is_minus (first_byte bs)) bs (drop 1 bs) h
