-- The marks of a bitmap, from the bits of its words.
use Rattle.std.proofs.Common.{◌≡◌, ℕ, suc, zero, ◌+◌, ◌-◌, ◌/◌, ◌%◌, ◌<◌, List, ◌∷◌, length, refl, sym, ap, ◌∙◌, arith, true, false, cond, eqb, replicate, eq-eqb, eqb-true, get_or, zero-add}
use Rattle.std.specs.Prelude.{ℤ, pos, ◌+ℤ◌, ◌≤ℤ◌, filter}
use Rattle.std.specs.Int.{int_gap, bit_at}
use Rattle.std.proofs.lemmas.Int.{ints}
use Rattle.std.proofs.lemmas.Bool.{ne_eqb}
use Rattle.std.proofs.lemmas.Nat.Bits.{bit_at-zero, bit_at-lt}
use Rattle.std.proofs.lemmas.List.{get_or-replicate}
use Rattle.int_domain.specs.declared.bitmap.Bitmap.{Bitmap}
use Rattle.int_domain.specs.Values.{numbers_from, range}
use Rattle.int_domain.specs.Bits.{bit_of, marks, set_between}
use Rattle.int_domain.proofs.Members.{gap_is}
use Rattle.int_domain.proofs.Words.{total, total_suc}

-- the place of the number at a place
pub gap_back : (base : ℤ) (place : ℕ) → int_gap base (base +ℤ pos place) ≡ place
gap_back base place =
    let is : base +ℤ pos (int_gap base (base +ℤ pos place)) ≡ base +ℤ pos place = gap_is base (base +ℤ pos place) (omega (arith, ints)) in
    omega (arith, ints)

pub bit_of_none : (k : ℕ) → k < 1024 → bit_of (replicate 16 0) k ≡ 0
unfolding bit_of
bit_of_none k h = ap (λ n. bit_at n (k % 64)) (get_or-replicate 16 (k / 64) 0 0 (omega arith)) ∙ bit_at-zero (k % 64)

-- the place of a number
gap_at : (base v : ℤ) (place : ℕ) → base +ℤ pos place ≡ v → int_gap base v ≡ place
gap_at base v place is = ap (int_gap base) (sym is) ∙ gap_back base place

pub marks_is : (b : Bitmap) (v : ℤ) (place : ℕ) → b.base +ℤ pos place ≡ v → marks b v ≡ eqb (bit_of b.words place) 1
unfolding marks
marks_is b v place is = ap (λ k. eqb (bit_of b.words k) 1) (gap_at b.base v place is)

pub marked_at : (b : Bitmap) (v : ℤ) (place : ℕ) → b.base +ℤ pos place ≡ v → bit_of b.words place ≡ 1 → marks b v ≡ true
marked_at b v place is one = marks_is b v place is ∙ eq-eqb _ _ one

pub unmarked_at : (b : Bitmap) (v : ℤ) (place : ℕ) → b.base +ℤ pos place ≡ v → bit_of b.words place ≡ 0 → marks b v ≡ false
unmarked_at b v place is none = marks_is b v place is ∙ ne_eqb _ _ (λ one. omega (arith, none, one))

pub bit_from_marks : (b : Bitmap) (v : ℤ) (place : ℕ) → b.base +ℤ pos place ≡ v → marks b v ≡ true → bit_of b.words place ≡ 1
bit_from_marks b v place is e = eqb-true _ _ (sym (marks_is b v place is) ∙ e)

-- the place that a number from the base on has
pub place_for : (base v : ℤ) → base ≤ℤ v → (place : ℕ) × (base +ℤ pos place ≡ v)
place_for base v h = (int_gap base v, gap_is base v h)

-- bitmaps with one base agree at a number where their bits agree
pub marks_same : (b c : Bitmap) (v : ℤ) (place : ℕ) → b.base ≡ c.base → b.base +ℤ pos place ≡ v → bit_of b.words place ≡ bit_of c.words place → marks b v ≡ marks c v
marks_same b c v place base is same =
    marks_is b v place is ∙ ap (λ n. eqb n 1) same ∙ sym (marks_is c v place (ap (λ z. z +ℤ pos place) (sym base) ∙ is))

-- ---- how many numbers are marked
bit_small : (words : List ℕ) (place : ℕ) → bit_of words place < 2
unfolding bit_of
bit_small words place = bit_at-lt (get_or words (place / 64) 0) (place % 64)

counted : (bit : ℕ) (v : ℤ) (xs : List ℤ) → bit < 2 → length (cond (eqb bit 1) (v ∷ xs) xs) ≡ bit + length xs
counted zero v xs h = sym (zero-add (length xs))
counted (suc zero) v xs h = omega arith
counted (suc (suc n)) v xs h = absurd (omega arith)

count_numbers : (b : Bitmap) (low : ℤ) (place n : ℕ) → b.base +ℤ pos place ≡ low → length (filter (marks b) (numbers_from low n)) ≡ total (bit_of b.words) place n
unfolding numbers_from
count_numbers b low place zero is = refl
count_numbers b low place (suc n) is =
    let rest : length (filter (marks b) (numbers_from (low +ℤ pos 1) n)) ≡ total (bit_of b.words) (place + 1) n = count_numbers b (low +ℤ pos 1) (place + 1) n (omega (arith, ints)) in
    let tail : List ℤ = filter (marks b) (numbers_from (low +ℤ pos 1) n) in
    ap (λ t. length (cond t (low ∷ tail) tail)) (marks_is b low place is) ∙ counted (bit_of b.words place) low tail (bit_small b.words place) ∙ omega (arith, rest, total_suc (bit_of b.words) place n)

-- the marked numbers of a range, by the places of its ends
pub count_range : (b : Bitmap) (low high : ℤ) (from last : ℕ) → b.base +ℤ pos from ≡ low → b.base +ℤ pos last ≡ high → low ≤ℤ high → set_between b.words from (last + 1) ≡ length (filter (marks b) (range low high))
unfolding set_between range
count_range b low high from last first_is last_is ordered =
    let many : low +ℤ pos (int_gap low (high +ℤ pos 1)) ≡ high +ℤ pos 1 = gap_is low (high +ℤ pos 1) (omega (arith, ints)) in
    let same : int_gap low (high +ℤ pos 1) ≡ last + 1 - from = omega (arith, ints) in
    sym (ap (λ n. length (filter (marks b) (numbers_from low n))) same ∙ count_numbers b low from (last + 1 - from) first_is)
