-- The longest number.
use Rattle.std.proofs.Common.{◌≡◌, ℕ, zero, suc, ◌<◌, ◌≤◌, List, [], ◌∷◌, ◌++◌, Bool, true, false, length, take, drop, refl, sym, ap, ◌∙◌, arith, inl, inr}
use Rattle.std.specs.Prelude.{◌==◌}
use Rattle.std.specs.List.{prefix_len}
use Rattle.std.proofs.lemmas.Bool.Decides.{nat_tests}
use Rattle.std.proofs.lemmas.List.{take-append-drop}
use Rattle.fzn_lexer.specs.Spelling.{IsRun, IsAfter, IsUnsigned, IsNumber}
use Rattle.fzn_lexer.specs.Scan.{first_byte, after_len, or_else, based_len, unsigned_len, number_len}
use Rattle.fzn_lexer.specs.Bytes.{is_digit, is_hex, is_octal, is_zero, is_x, is_o, is_minus}
use Rattle.fzn_lexer.proofs.Fronts.{Fronts, fronts_run, fronts_after, fronts_maybe, run_all}

abbrev pub Based : ℕ → (ℕ → Bool) → List ℕ → Type 0
Based b test = IsAfter is_zero (IsAfter (λ c. c == b) (IsRun test))

fronts_based : (b : ℕ) (test : ℕ → Bool) → (0 == b) ≡ false → Fronts (Based b test) (based_len (λ c. c == b) test)
unfolding based_len
fronts_based b test h =
    fronts_after is_zero refl (IsAfter (λ c. c == b) (IsRun test)) (after_len (λ c. c == b) (prefix_len test))
    (fronts_after (λ c. c == b) h (IsRun test) (prefix_len test) (fronts_run test))

-- what is spelled with a letter behind `0` begins with the two
pub based_is : (b : ℕ) (test : ℕ → Bool) (w rest : List ℕ) → Based b test w → (cs : List ℕ) × (w ++ rest ≡ 48 ∷ b ∷ cs)
based_is b test w rest (c, u, e, (d, v, f, run, q), p) =
    let c_is : c ≡ 48 = grind (arith, nat_tests) in
    let d_is : d ≡ b = grind (arith, nat_tests) in
    (v ++ rest, rw (p, q, c_is, d_is) refl)

pub based_begins : (b : ℕ) (test : ℕ → Bool) → (0 == b) ≡ false → (bs : List ℕ) → 0 < based_len (λ c. c == b) test bs → (cs : List ℕ) × (bs ≡ 48 ∷ b ∷ cs)
based_begins b test h bs p =
    let n = based_len (λ c. c == b) test bs in
    let k = based_is b test (take n bs) (drop n bs) ((fronts_based b test h).spelled bs p) in
    (k.0, sym (take-append-drop n bs) ∙ k.1)

-- `0x` and digits, `0o` and digits, or digits: the first that is there
or_spelled : (n m : ℕ) (P : ℕ → Type 0) → (0 < n → P n) → (0 < m → P m) → 0 < or_else n m → P (or_else n m)
or_spelled zero m P p q h = q h
or_spelled (suc n) m P p q h = p (omega arith)

or_least : (n m k : ℕ) → k ≤ m → (0 < n → k ≤ n) → k ≤ or_else n m
or_least zero m k p q = p
or_least (suc n) m k p q = q (omega arith)

or_first : (n m k : ℕ) → 0 < k → k ≤ n → k ≤ or_else n m
or_first zero m k p q = absurd (omega arith)
or_first (suc n) m k p q = q

unsigned_spelled : (bs : List ℕ) → 0 < unsigned_len bs → IsUnsigned (take (unsigned_len bs) bs)
unfolding unsigned_len
unsigned_spelled bs h =
    or_spelled (based_len is_x is_hex bs) (or_else (based_len is_o is_octal bs) (prefix_len is_digit bs)) (λ n. IsUnsigned (take n bs))
    (λ p. inr (inl ((fronts_based 120 is_hex refl).spelled bs p)))
    (or_spelled (based_len is_o is_octal bs) (prefix_len is_digit bs) (λ n. IsUnsigned (take n bs))
    (λ p. inr (inr ((fronts_based 111 is_octal refl).spelled bs p)))
    (λ p. inl ((fronts_run is_digit).spelled bs p)))
    h

-- where a letter stands behind the `0`, only the `0` is a run of digits
one_digit : (b : ℕ) (bs cs : List ℕ) → bs ≡ 48 ∷ b ∷ cs → is_digit b ≡ false → prefix_len is_digit bs ≡ 1
one_digit b bs cs e h = rw (e, h) refl

digits_within : (b : ℕ) (test : ℕ → Bool) → (0 == b) ≡ false → is_digit b ≡ false → (bs : List ℕ) (k : ℕ) → k ≤ prefix_len is_digit bs → 0 < based_len (λ c. c == b) test bs → k ≤ based_len (λ c. c == b) test bs
digits_within b test h other bs k p q =
    let begins = based_begins b test h bs q in
    omega (arith, one_digit b bs begins.0 begins.1 other)

apart : (cs ds : List ℕ) → 48 ∷ 120 ∷ cs ≡ 48 ∷ 111 ∷ ds → ⊥
apart cs ds e = let other : ◌≡◌ {A = ℕ} 120 111 = ap (λ (bs : List ℕ). first_byte (drop 1 bs)) e in omega (arith, other)

unsigned_within : (w rest : List ℕ) → IsUnsigned w → length w ≤ unsigned_len (w ++ rest)
unfolding unsigned_len
unsigned_within w rest (inl d) =
    let bs = w ++ rest in
    let k = (fronts_run is_digit).within w rest d in
    or_least _ _ (length w) (or_least _ _ (length w) k (digits_within 111 is_octal refl refl bs (length w) k)) (digits_within 120 is_hex refl refl bs (length w) k)
unsigned_within w rest (inr (inl x)) =
    let f = fronts_based 120 is_hex refl in
    or_first _ _ (length w) (f.some w x) (f.within w rest x)
unsigned_within w rest (inr (inr x)) =
    let f = fronts_based 111 is_octal refl in
    let octal = based_is 111 is_octal w rest x in
    or_least _ _ (length w) (or_first _ _ (length w) (f.some w x) (f.within w rest x))
    (λ p. let hex = based_begins 120 is_hex refl (w ++ rest) p in absurd (apart hex.0 octal.0 (sym hex.1 ∙ octal.1)))

unsigned_some : (w : List ℕ) → IsUnsigned w → 0 < length w
unsigned_some w (inl d) = (run_all is_digit w d).1
unsigned_some w (inr (inl x)) = (fronts_based 120 is_hex refl).some w x
unsigned_some w (inr (inr x)) = (fronts_based 111 is_octal refl).some w x

fronts_unsigned : Fronts IsUnsigned unsigned_len
fronts_unsigned = record { spelled = unsigned_spelled; within = unsigned_within; some = unsigned_some }

pub run_first : (test : ℕ → Bool) (w rest : List ℕ) → IsRun test w → test (first_byte (w ++ rest)) ≡ true
run_first test [] rest h = absurd h
run_first test (c ∷ w) rest h = h.0

after_first : (test : ℕ → Bool) (Spelled : List ℕ → Type 0) (w : List ℕ) → IsAfter test Spelled w → test (first_byte w) ≡ true
after_first test Spelled w (c, u, e, s, p) = rw p e

zero_digit : (c : ℕ) → is_zero c ≡ true → is_digit c ≡ true
zero_digit c h = let e : c ≡ 48 = grind (arith, nat_tests) in rw e refl

pub unsigned_first : (w : List ℕ) → IsUnsigned w → is_digit (first_byte w) ≡ true
unsigned_first [] (inl d) = absurd d
unsigned_first (c ∷ w) (inl d) = d.0
unsigned_first w (inr (inl x)) = zero_digit (first_byte w) (after_first is_zero _ w x)
unsigned_first w (inr (inr x)) = zero_digit (first_byte w) (after_first is_zero _ w x)

pub digit_not_minus : (c : ℕ) → is_digit c ≡ true → is_minus c ≡ false
digit_not_minus c h = grind (arith, nat_tests)

pub fronts_number : Fronts IsNumber number_len
unfolding number_len
fronts_number = fronts_maybe is_minus refl IsUnsigned unsigned_len fronts_unsigned (λ w h. digit_not_minus (first_byte w) (unsigned_first w h))
