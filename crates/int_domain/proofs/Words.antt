-- Bits of words: masks, the lowest and the highest bit, and how many bits are 1.
use Rattle.std.proofs.Common.{◌≡◌, ℕ, suc, zero, ◌+◌, ◌-◌, ◌*◌, ◌/◌, ◌%◌, ◌^◌, ◌<◌, ◌≤◌, min, refl, sym, ap, ◌∙◌, arith, bit_and, bit_or, List, length, set, replicate, get_or, cond, leb, ltb, ◌&&◌, inl, inr, ⊎_elim, add-zero, zero-add}
use Rattle.std.specs.Int.{bit_at, bit_not, w64, leading_zeros}
use Rattle.std.specs.Int.RustNames.{count_ones}
use lib.Count.{ones, ones_in}
use Rattle.std.specs.List.{range_with_len, sum_by}
use Rattle.std.proofs.Math.Nat.{div-eq_of_lt-le, pow-suc}
use Rattle.std.proofs.lemmas.Bool.{cases_lt, cases_eq, le-leb, lt-ltb, lt-leb, le-ltb}
use Rattle.std.proofs.lemmas.List.{get_or-set_same, get_or-set_other, get_or-replicate}
use Rattle.std.proofs.lemmas.List.Sums.{sum_by-cons}
use Rattle.std.proofs.lemmas.Nat.{leading_top, ones_cat, mod-pow-add, mod_below, pow_pos}
use Rattle.int_domain.specs.Bits.{bit_of, set_between}
use Rattle.std.proofs.lemmas.Nat.Bits.{ones_shl, ones_shr, bit_at_and, bit_at_mask_inside, bit_at_mask_below, bit_at_ones, bit_at_ones_above, bit_at-lt, bit_at_above, bit_at_or, bit_at_clear_same, bit_at_clear_other}

-- the two shifts of all ones that make up a mask
mask_bit : (first after j : ℕ) → first < after → after ≤ 64 → bit_at (bit_and (18446744073709551615 * 2 ^ first % 18446744073709551616) (18446744073709551615 / 2 ^ (64 - after))) j ≡ min (bit_at (2 ^ 64 - 2 ^ first) j) (bit_at (2 ^ after - 1) j)
mask_bit first after j h k =
    let left : 18446744073709551615 * 2 ^ first % 18446744073709551616 ≡ 2 ^ 64 - 2 ^ first = ones_shl 64 first (omega arith) in
    let back : 64 - (64 - after) ≡ after = omega arith in
    let right : 18446744073709551615 / 2 ^ (64 - after) ≡ 2 ^ after - 1 = ones_shr 64 (64 - after) (omega arith) ∙ ap (λ n. 2 ^ n - 1) back in
    rw (left, right) (bit_at_and (2 ^ 64 - 2 ^ first) (2 ^ after - 1) j)

pub mask_inside : (first after j : ℕ) → first < after → after ≤ 64 → first ≤ j → j < after → bit_at (bit_and (18446744073709551615 * 2 ^ first % 18446744073709551616) (18446744073709551615 / 2 ^ (64 - after))) j ≡ 1
mask_inside first after j h k p q =
    mask_bit first after j h k ∙ omega (arith, bit_at_mask_inside first 64 j p (omega arith), bit_at_ones after j q)

pub mask_below : (first after j : ℕ) → first < after → after ≤ 64 → j < first → bit_at (bit_and (18446744073709551615 * 2 ^ first % 18446744073709551616) (18446744073709551615 / 2 ^ (64 - after))) j ≡ 0
mask_below first after j h k p =
    mask_bit first after j h k ∙ omega (arith, bit_at_mask_below first 64 j p)

pub mask_above : (first after j : ℕ) → first < after → after ≤ 64 → after ≤ j → bit_at (bit_and (18446744073709551615 * 2 ^ first % 18446744073709551616) (18446744073709551615 / 2 ^ (64 - after))) j ≡ 0
mask_above first after j h k p =
    mask_bit first after j h k ∙ omega (arith, bit_at_ones_above after j p)

-- ---- one bit of a word
top_bit : (n j : ℕ) → 2 ^ j ≤ n → n < 2 ^ suc j → bit_at n j ≡ 1
top_bit n j low high =
    let double : 2 ^ suc j ≡ 2 ^ j * 2 = pow-suc 2 j in
    ap (λ q. q % 2) (div-eq_of_lt-le {k = 1} (2 ^ j) {m = n} (omega arith) (omega arith))

-- the highest 1 stands below the leading zeros
pub highest_is_one : (n : ℕ) → 0 < n → n < 2 ^ 64 → bit_at n (63 - leading_zeros w64 n) ≡ 1
highest_is_one n p q =
    let top = leading_top 64 n p q in
    let place : 63 - leading_zeros w64 n ≡ top.0 = omega (arith, top.1) in
    ap (bit_at n) place ∙ top_bit n top.0 top.2 top.3

pub above_highest : (n : ℕ) → 0 < n → n < 2 ^ 64 → (j : ℕ) → 63 - leading_zeros w64 n < j → bit_at n j ≡ 0
above_highest n p q j h =
    let top = leading_top 64 n p q in
    bit_at_above n (suc top.0) j top.3 (omega (arith, top.1))

-- ---- one place of a row of words
pub bit_of_and_inside : (ws : List ℕ) (mask k i : ℕ) → k / 64 ≡ i → bit_at mask (k % 64) ≡ 1 → bit_at (bit_and (get_or ws i 0) mask) (k % 64) ≡ bit_of ws k
unfolding bit_of
bit_of_and_inside ws mask k i is one =
    let here : bit_at (get_or ws i 0) (k % 64) ≡ bit_at (get_or ws (k / 64) 0) (k % 64) = ap (λ n. bit_at (get_or ws n 0) (k % 64)) (sym is) in
    bit_at_and (get_or ws i 0) mask (k % 64) ∙ omega (arith, bit_at-lt (get_or ws i 0) (k % 64))

pub bit_of_and_outside : (word mask k : ℕ) → bit_at mask (k % 64) ≡ 0 → bit_at (bit_and word mask) (k % 64) ≡ 0
bit_of_and_outside word mask k none = bit_at_and word mask (k % 64) ∙ omega arith

bit_of_set_same : (ws : List ℕ) (i w k : ℕ) → i < length ws → k / 64 ≡ i → bit_of (set ws i w) k ≡ bit_at w (k % 64)
unfolding bit_of
bit_of_set_same ws i w k h is = ap (λ n. bit_at (get_or (set ws i w) n 0) (k % 64)) is ∙ ap (λ n. bit_at n (k % 64)) (get_or-set_same ws i w 0 h)

bit_of_set_other : (ws : List ℕ) (i w k : ℕ) → (k / 64 ≡ i → ⊥) → bit_of (set ws i w) k ≡ bit_of ws k
unfolding bit_of
bit_of_set_other ws i w k other = ap (λ n. bit_at n (k % 64)) (get_or-set_other ws i (k / 64) w 0 other)

-- the word at i takes the bits of a mask too
pub bit_of_or_one : (ws : List ℕ) (i mask k : ℕ) → i < length ws → k / 64 ≡ i → bit_at mask (k % 64) ≡ 1 → bit_of (set ws i (bit_or (get_or ws i 0) mask)) k ≡ 1
bit_of_or_one ws i mask k h is one =
    bit_of_set_same ws i _ k h is ∙ bit_at_or (get_or ws i 0) mask (k % 64) ∙ omega (arith, bit_at-lt (get_or ws i 0) (k % 64))

pub bit_of_or_zero : (ws : List ℕ) (i mask k : ℕ) → i < length ws → (k / 64 ≡ i → bit_at mask (k % 64) ≡ 0) → bit_of (set ws i (bit_or (get_or ws i 0) mask)) k ≡ bit_of ws k
unfolding bit_of
bit_of_or_zero ws i mask k h none =
    elim (cases_eq (k / 64) i) [
      | inl is ↦ bit_of_set_same ws i _ k h is ∙ bit_at_or (get_or ws i 0) mask (k % 64) ∙ omega (arith, none is) ∙ ap (λ n. bit_at (get_or ws n 0) (k % 64)) (sym is)
      | inr other ↦ bit_of_set_other ws i _ k other
    ]

pub bit_of_or_other : (ws : List ℕ) (i mask k : ℕ) → (k / 64 ≡ i → ⊥) → bit_of (set ws i (bit_or (get_or ws i 0) mask)) k ≡ bit_of ws k
bit_of_or_other ws i mask k other = bit_of_set_other ws i _ k other

-- one bit of a row is cleared
pub bit_of_cleared : (ws : List ℕ) (k : ℕ) → k / 64 < length ws → bit_of (set ws (k / 64) (bit_and (get_or ws (k / 64) 0) (bit_not w64 (1 * 2 ^ (k % 64) % 18446744073709551616)))) k ≡ 0
bit_of_cleared ws k h =
    bit_of_set_same ws (k / 64) _ k h refl ∙ bit_at_clear_same w64 (get_or ws (k / 64) 0) (k % 64) (omega arith)

pub bit_of_clear_other : (ws : List ℕ) (k j : ℕ) → k / 64 < length ws → (j ≡ k → ⊥) → bit_of (set ws (k / 64) (bit_and (get_or ws (k / 64) 0) (bit_not w64 (1 * 2 ^ (k % 64) % 18446744073709551616)))) j ≡ bit_of ws j
unfolding bit_of
bit_of_clear_other ws k j h apart =
    elim (cases_eq (j / 64) (k / 64)) [
      | inl is ↦
          let differ : j % 64 ≡ k % 64 → ⊥ = λ same. apart (omega arith) in
          bit_of_set_same ws (k / 64) _ j h is ∙ bit_at_clear_other w64 (get_or ws (k / 64) 0) (k % 64) (omega arith) (j % 64) (omega arith) differ
          ∙ ap (λ n. bit_at (get_or ws n 0) (j % 64)) (sym is)
      | inr other ↦ bit_of_set_other ws (k / 64) _ j other
    ]

pub bit_of_all_ones : (k : ℕ) → k < 1024 → bit_of (replicate 16 18446744073709551615) k ≡ 1
unfolding bit_of
bit_of_all_ones k h =
    ap (λ n. bit_at n (k % 64)) (get_or-replicate 16 (k / 64) 18446744073709551615 0 (omega arith)) ∙ bit_at_ones 64 (k % 64) (omega arith)

-- ---- how many places have the bit 1
abbrev pub total : (ℕ → ℕ) → ℕ → ℕ → ℕ
total f a n = sum_by f (range_with_len a n)

pub total_suc : (f : ℕ → ℕ) (a n : ℕ) → total f a (suc n) ≡ f a + total f (a + 1) n
total_suc f a n = sum_by-cons f a (range_with_len (a + 1) n)

pub total_shift : (f g : ℕ → ℕ) (a b n : ℕ) → ((k : ℕ) → k < n → f (a + k) ≡ g (b + k)) → total f a n ≡ total g b n
total_shift f g a b zero each = refl
total_shift f g a b (suc n) each =
    let first : f a ≡ g b = simp add-zero at (each 0 (omega arith)) in
    let rest : total f (a + 1) n ≡ total g (b + 1) n =
    total_shift f g (a + 1) (b + 1) n (λ k h.
    let e : a + 1 + k ≡ a + suc k = omega arith in
    let d : b + suc k ≡ b + 1 + k = omega arith in
    ap f e ∙ each (suc k) (omega arith) ∙ ap g d) in
    total_suc f a n ∙ omega (arith, first, rest) ∙ sym (total_suc g b n)

pub total_add : (f : ℕ → ℕ) (a m n : ℕ) → total f a (m + n) ≡ total f a m + total f (a + m) n
total_add f a zero n =
    let whole : 0 + n ≡ n = zero-add n in
    let place : a ≡ a + 0 = sym (add-zero a) in
    ap (total f a) whole ∙ ap (λ k. total f k n) place ∙ sym (zero-add (total f (a + 0) n))
total_add f a (suc m) n =
    let whole : suc m + n ≡ suc (m + n) = omega arith in
    let place : a + 1 + m ≡ a + suc m = omega arith in
    let later : total f (a + 1) (m + n) ≡ total f (a + 1) m + total f (a + suc m) n = total_add f (a + 1) m n ∙ ap (λ k. total f (a + 1) m + total f k n) place in
    ap (total f a) whole ∙ total_suc f a (m + n) ∙ omega (arith, later, total_suc f a m)

pub total_none : (f : ℕ → ℕ) (a n : ℕ) → ((k : ℕ) → a ≤ k → k < a + n → f k ≡ 0) → total f a n ≡ 0
total_none f a zero none = refl
total_none f a (suc n) none = total_suc f a n ∙ omega (arith, none a (omega arith) (omega arith), total_none f (a + 1) n (λ k h l. none k (omega arith) (omega arith)))

total_one : (f : ℕ → ℕ) (a : ℕ) → total f a 1 ≡ f a
total_one f a = total_suc f a 0 ∙ add-zero (f a)

ones_small : (n : ℕ) → n < 2 → count_ones n ≡ n
unfolding ones ones_in
ones_small zero h = refl
ones_small (suc zero) h = refl
ones_small (suc (suc n)) h = absurd (omega arith)

-- the bits of a word, from the lowest on
ones_total : (n m : ℕ) → count_ones (n % 2 ^ m) ≡ total (bit_at n) 0 m
ones_total n zero = let none : n % 1 ≡ 0 = omega arith in ap count_ones none ∙ ones_small 0 (omega arith)
ones_total n (suc m) =
    let whole : suc m ≡ 1 + m = omega arith in
    let more : suc m ≡ m + 1 = omega arith in
    let split : n % 2 ^ (1 + m) ≡ bit_at n m * 2 ^ m + n % 2 ^ m = mod-pow-add n 1 m in
    let parts : count_ones (bit_at n m * 2 ^ m + n % 2 ^ m) ≡ count_ones (bit_at n m) + count_ones (n % 2 ^ m) = ones_cat m (bit_at n m) (n % 2 ^ m) (mod_below n (2 ^ m) (pow_pos m)) in
    let top : count_ones (bit_at n m) ≡ bit_at n m = ones_small (bit_at n m) (bit_at-lt n m) in
    let added : total (bit_at n) 0 (m + 1) ≡ total (bit_at n) 0 m + total (bit_at n) (0 + m) 1 = total_add (bit_at n) 0 m 1 in
    let last : total (bit_at n) (0 + m) 1 ≡ bit_at n m = ap (λ k. total (bit_at n) k 1) (zero-add m) ∙ total_one (bit_at n) m in
    ap (λ k. count_ones (n % 2 ^ k)) whole ∙ ap count_ones split ∙ parts ∙ omega (arith, ones_total n m, top, added, last) ∙ ap (total (bit_at n) 0) (sym more)

pub ones_of_word : (word : ℕ) → word < 2 ^ 64 → count_ones word ≡ total (bit_at word) 0 64
ones_of_word word h =
    let whole : word ≡ word % 2 ^ 64 = omega arith in
    ap count_ones whole ∙ ones_total word 64

-- the bit at a place that lies in from..end, and else 0
abbrev pub masked : List ℕ → ℕ → ℕ → ℕ → ℕ
masked ws from end k = cond (leb from k && ltb k end) (bit_of ws k) 0

masked_inside : (ws : List ℕ) (from end k : ℕ) → from ≤ k → k < end → masked ws from end k ≡ bit_of ws k
masked_inside ws from end k p q = simp (le-leb from k p, lt-ltb k end q)

masked_below : (ws : List ℕ) (from end k : ℕ) → k < from → masked ws from end k ≡ 0
masked_below ws from end k p = simp (lt-leb from k p)

masked_above : (ws : List ℕ) (from end k : ℕ) → from ≤ k → end ≤ k → masked ws from end k ≡ 0
masked_above ws from end k p q = simp (le-leb from k p, le-ltb k end q)

-- one word more
pub count_step : (ws : List ℕ) (from end i word : ℕ) → from ≤ end → word < 2 ^ 64
    → ((k : ℕ) → k / 64 ≡ i → from ≤ k → k < end → bit_at word (k % 64) ≡ bit_of ws k)
    → ((k : ℕ) → k / 64 ≡ i → k < from → bit_at word (k % 64) ≡ 0)
    → ((k : ℕ) → k / 64 ≡ i → end ≤ k → bit_at word (k % 64) ≡ 0)
    → total (masked ws from end) 0 (64 * (i + 1)) ≡ total (masked ws from end) 0 (64 * i) + count_ones word
count_step ws from end i word ordered fits inside below above =
    let more : 64 * (i + 1) ≡ 64 * i + 64 = omega arith in
    let each : (j : ℕ) → j < 64 → masked ws from end (64 * i + j) ≡ bit_at word (0 + j) = λ j h. same_bit j h in
    let here : total (masked ws from end) (64 * i) 64 ≡ count_ones word = total_shift (masked ws from end) (bit_at word) (64 * i) 0 64 each ∙ sym (ones_of_word word fits) in
    ap (total (masked ws from end) 0) more ∙ total_add (masked ws from end) 0 (64 * i) 64 ∙ ap (λ k. total (masked ws from end) 0 (64 * i) + total (masked ws from end) k 64) (zero-add (64 * i)) ∙ omega (arith, here)
  where
    same_bit : (j : ℕ) → j < 64 → masked ws from end (64 * i + j) ≡ bit_at word (0 + j)
    same_bit j h =
        let row : (64 * i + j) / 64 ≡ i = omega arith in
        let place : (64 * i + j) % 64 ≡ 0 + j = omega arith in
        ⊎_elim
        (λ before. masked_below ws from end (64 * i + j) before ∙ sym (below (64 * i + j) row before) ∙ ap (bit_at word) place)
        (λ from_on. ⊎_elim
        (λ before. masked_inside ws from end (64 * i + j) from_on before ∙ sym (inside (64 * i + j) row from_on before) ∙ ap (bit_at word) place)
        (λ behind. masked_above ws from end (64 * i + j) from_on behind ∙ sym (above (64 * i + j) row behind) ∙ ap (bit_at word) place)
        (cases_lt (64 * i + j) end))
        (cases_lt (64 * i + j) from)

-- words in front of the first place
pub count_none : (ws : List ℕ) (from end n : ℕ) → n ≤ from → total (masked ws from end) 0 n ≡ 0
count_none ws from end n front = total_none (masked ws from end) 0 n (λ k p q. masked_below ws from end k (omega arith))

-- the words up to the last place
pub count_all : (ws : List ℕ) (from end n : ℕ) → from ≤ end → end ≤ n → total (masked ws from end) 0 n ≡ set_between ws from end
unfolding set_between
count_all ws from end n ordered within =
    let m : ℕ → ℕ = masked ws from end in
    let first : from + (n - from) ≡ n = omega arith in
    let second : (end - from) + (n - end) ≡ n - from = omega arith in
    let stop : from + (end - from) ≡ end = omega arith in
    let middle : total m from (end - from) ≡ total (bit_of ws) from (end - from) = total_shift m (bit_of ws) from from (end - from) (λ k p. masked_inside ws from end (from + k) (omega arith) (omega arith)) in
    let back : total m end (n - end) ≡ 0 = total_none m end (n - end) (λ k p q. masked_above ws from end k (omega arith) p) in
    let once : total m 0 (from + (n - from)) ≡ total m 0 from + total m from (n - from) = total_add m 0 from (n - from) ∙ ap (λ k. total m 0 from + total m k (n - from)) (zero-add from) in
    let twice : total m from ((end - from) + (n - end)) ≡ total m from (end - from) + total m end (n - end) = total_add m from (end - from) (n - end) ∙ ap (λ k. total m from (end - from) + total m k (n - end)) stop in
    ap (total m 0) (sym first) ∙ once ∙ omega (arith, count_none ws from end from (omega arith), ap (total m from) second, twice, middle, back)

-- ---- where the word of a part has a 1
pub part_place : (word i t from end : ℕ) → t < 64 → bit_at word t ≡ 1
    → ((k : ℕ) → k / 64 ≡ i → k < from → bit_at word (k % 64) ≡ 0)
    → ((k : ℕ) → k / 64 ≡ i → end ≤ k → bit_at word (k % 64) ≡ 0)
    → (from ≤ 64 * i + t) × (64 * i + t < end)
part_place word i t from end h one below above =
    let row : (64 * i + t) / 64 ≡ i = omega arith in
    let place : (64 * i + t) % 64 ≡ t = omega arith in
    let here : bit_at word ((64 * i + t) % 64) ≡ 1 = ap (bit_at word) place ∙ one in (
      ⊎_elim (λ before. absurd (omega (arith, here, below (64 * i + t) row before))) (λ fine. fine) (cases_lt (64 * i + t) from),
      ⊎_elim (λ fine. fine) (λ behind. absurd (omega (arith, here, above (64 * i + t) row behind))) (cases_lt (64 * i + t) end),
    )
