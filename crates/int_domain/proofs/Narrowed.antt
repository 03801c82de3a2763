-- Domains as they are kept: their bounds and size, and what a narrowing leaves of them.
use Rattle.std.proofs.Common.{◌≡◌, ◌≢◌, ℕ, suc, zero, ◌<◌, ◌≤◌, ◌↔◌, List, [], ◌∷◌, length, refl, sym, ap, subst, ◌∙◌, arith, Bool, true, false, cond, not, Option, Some, None, inl, inr, get_or, ⊎_elim}
use Rattle.std.specs.Int.{int_gap}
use Rattle.std.specs.Prelude.{ℤ, pos, ◌+ℤ◌, ◌-ℤ◌, ◌≤ℤ◌, ◌<ℤ◌, int_le, int_lt, filter, Contains, MatchBool}
use Rattle.std.specs.Ordering.{int_eq}
use Rattle.std.proofs.lemmas.Int.{ints, by_lt_z}
use Rattle.std.proofs.lemmas.Bool.{false≢true, false_from_ne_true, not-true, not_from_true, not_from_false, and_parts, and_from}
use Rattle.std.proofs.lemmas.Bool.Decides.{Decides-int_eq}
use Rattle.int_domain.specs.declared.TheConstants.{LARGEST_NARROW_HULL}
use Rattle.int_domain.specs.declared.bitmap.Bitmap.{Bitmap}
use Rattle.int_domain.specs.declared.narrow.Narrow.{Narrow}
use Rattle.int_domain.specs.declared.narrow.Narrow.TheVariants.{Same, Changed, Empty}
use Rattle.int_domain.specs.Values.{numbers_from, range, low_of, high_of, is_wide, IsDomain}
use Rattle.int_domain.specs.Narrowing.{Narrows, DropsValue, is_held}
use Rattle.int_domain.specs.Bits.{Covers, marks}
use Rattle.int_domain.specs.Kept.{keeps, kept_between, FitsHull, IsSound, IsSized, Reaches}
use Rattle.int_domain.proofs.Members.{Has, Inside, between, rises_between, has_between, between_has, low_between, high_between, filter_is, empty_by_members, has_filter, same_by_members, rises_range, has_range, range_has, has_get, all_pairs, contains_from_has, has_from_contains, Rises, gap_is}

pub le_from_test : (a b : ℤ) → int_le a b ≡ true → a ≤ℤ b
le_from_test a b e = grind (arith, ints)

pub test_from_le : (a b : ℤ) → a ≤ℤ b → int_le a b ≡ true
test_from_le a b h = grind (arith, ints)

pub test_from_gt : (a b : ℤ) → b <ℤ a → int_le a b ≡ false
test_from_gt a b h = grind (arith, ints)

-- ---- a sound domain
pub low_is_kept : (b : Option Bitmap) (low high : ℤ) → IsSound b low high → low_of (kept_between b low high) ≡ low
unfolding kept_between
low_is_kept b low high s = low_between (keeps b) low high s.ordered s.low_kept

pub high_is_kept : (b : Option Bitmap) (low high : ℤ) → IsSound b low high → high_of (kept_between b low high) ≡ high
unfolding kept_between
high_is_kept b low high s = high_between (keeps b) low high s.ordered s.high_kept

-- without a bitmap all numbers are kept
pub all_kept : (low high : ℤ) → kept_between None low high ≡ range low high
unfolding kept_between keeps
all_kept low high =
    same_by_members (between (keeps None) low high) (range low high) (rises_between (keeps None) low high) (rises_range low high)
    (λ v h. let k = has_between (keeps None) low high v h in range_has low high v k.0 k.1)
    (λ v h. let k = has_range low high v h in between_has (keeps None) low high v (k.0, k.1, refl))

length_numbers : (low : ℤ) (n : ℕ) → length (numbers_from low n) ≡ n
unfolding numbers_from
length_numbers low zero = refl
length_numbers low (suc n) = ap suc (length_numbers (low +ℤ pos 1) n)

pub length_all_kept : (low high : ℤ) (n : ℕ) → low ≤ℤ high → low +ℤ pos n ≡ high +ℤ pos 1 → n ≡ length (kept_between None low high)
unfolding range
length_all_kept low high n h is =
    let many : low +ℤ pos (int_gap low (high +ℤ pos 1)) ≡ high +ℤ pos 1 = gap_is low (high +ℤ pos 1) (omega (arith, ints)) in
    let same : n ≡ int_gap low (high +ℤ pos 1) = omega (arith, ints) in
    same ∙ sym (ap length (all_kept low high) ∙ length_numbers low (int_gap low (high +ℤ pos 1)))

-- one number alone
pub one_kept : (v : ℤ) → 1 ≡ length (kept_between None v v)
one_kept v = length_all_kept v v 1 (omega (arith, ints)) refl

-- a size, at bounds that were passed on
pub sized_at : (b : Option Bitmap) (low high p q : ℤ) (n : ℕ) → n ≡ length (kept_between b low high) → p ≡ low → q ≡ high → n ≡ length (kept_between b p q)
sized_at b low high p q n size p_is q_is = rw (p_is, q_is) size

pub wide_is : (b : Option Bitmap) (low high : ℤ) → IsSound b low high → is_wide (kept_between b low high) ≡ int_lt LARGEST_NARROW_HULL (high -ℤ low +ℤ pos 1)
unfolding is_wide
wide_is b low high s = rw (low_is_kept b low high s, high_is_kept b low high s) refl

pub lt_from_test : (a b : ℤ) → int_lt a b ≡ true → a <ℤ b
lt_from_test a b e = grind (arith, ints)

pub test_from_lt : (a b : ℤ) → a <ℤ b → int_lt a b ≡ true
test_from_lt a b h = grind (arith, ints)

-- a wide domain has no bitmap
wide_has_none : (b : Option Bitmap) (low high : ℤ) → FitsHull b low high → LARGEST_NARROW_HULL <ℤ (high -ℤ low +ℤ pos 1) → b ≡ None
unfolding FitsHull
wide_has_none None low high fits wide = refl
wide_has_none (Some b) low high fits wide = let narrow : high <ℤ (low +ℤ LARGEST_NARROW_HULL) = fits.1 in absurd (omega (arith, ints))

pub kept_has : (b : Option Bitmap) (low high v : ℤ) → Inside (keeps b) low high v → Has v (kept_between b low high)
unfolding kept_between
kept_has b low high v h = between_has (keeps b) low high v h

pub has_kept : (b : Option Bitmap) (low high v : ℤ) → Has v (kept_between b low high) → Inside (keeps b) low high v
unfolding kept_between
has_kept b low high v h = has_between (keeps b) low high v h

pub rises_kept : (b : Option Bitmap) (low high : ℤ) → Rises (kept_between b low high)
unfolding kept_between
rises_kept b low high = rises_between (keeps b) low high

pub sound_is_domain : (b : Option Bitmap) (low high : ℤ) → IsSound b low high → IsDomain (kept_between b low high)
sound_is_domain b low high s = record {
  some = λ none. subst (Has low) none (kept_has b low high low (omega (arith, ints), s.ordered, s.low_kept));
  rising = all_pairs (kept_between b low high) (rises_kept b low high);
  within = λ k d h.
      let inside = has_kept b low high (get_or (kept_between b low high) k d) (has_get (kept_between b low high) k d h) in
      (omega (arith, ints, inside.0, s.low_within.0), omega (arith, ints, inside.1, s.high_within.1));
  no_gap = λ wide.
      let none : b ≡ None = wide_has_none b low high s.hull (lt_from_test _ _ (sym (wide_is b low high s) ∙ wide)) in
      let whole : kept_between b low high ≡ range low high = ap (λ c. kept_between c low high) none ∙ all_kept low high in
      let ends : range low high ≡ range (low_of (kept_between b low high)) (high_of (kept_between b low high)) = sym (ap (λ z. range z (high_of (kept_between b low high))) (low_is_kept b low high s) ∙ ap (range low) (high_is_kept b low high s)) in
      whole ∙ ends;
}

-- a part of what a bitmap covers
pub reaches_part : (b : Option Bitmap) (low high p q : ℤ) → FitsHull b low high → low ≤ℤ p → q ≤ℤ high → Reaches b p q
unfolding FitsHull Reaches
reaches_part None low high p q fits h k = tt
reaches_part (Some b) low high p q fits h k =
    let from : b.base ≤ℤ low = fits.2.from in
    let to : high <ℤ (b.base +ℤ LARGEST_NARROW_HULL) = fits.2.to in
    record { from = omega (arith, ints); to = omega (arith, ints) }

-- the ends of what is left are values, and the bitmap fits its hull
pub sound_after : (b c : Option Bitmap) (low high first last p q p' q' : ℤ) → IsSound b low high → low ≤ℤ first → first ≤ℤ last → last ≤ℤ high
    → keeps b first ≡ true → keeps b last ≡ true
    → p ≡ first → q ≡ last → FitsHull c p q → ((v : ℤ) → first ≤ℤ v → v ≤ℤ last → keeps c v ≡ keeps b v)
    → p' ≡ first → q' ≡ last → IsSound c p' q'
sound_after b c low high first last p q p' q' s above ordered below first_kept last_kept p_is q_is fits same p'_is q'_is =
    let clean : IsSound c first last = record {
      ordered = ordered;
      low_within = (omega (arith, ints, s.low_within.0), omega (arith, ints, s.high_within.1));
      high_within = (omega (arith, ints, s.low_within.0), omega (arith, ints, s.high_within.1));
      low_kept = same first (omega (arith, ints)) ordered ∙ first_kept;
      high_kept = same last ordered (omega (arith, ints)) ∙ last_kept;
      hull = subst (λ z. FitsHull c z last) p_is (subst (FitsHull c p) q_is fits);
    } in
    subst (λ z. IsSound c z q') (sym p'_is) (subst (IsSound c first) (sym q'_is) clean)

-- ---- narrowings
pub narrows_same : (keep : ℤ → Bool) (b : Option Bitmap) (low high : ℤ) → ((v : ℤ) → Inside (keeps b) low high v → keep v ≡ true) → Narrows keep (kept_between b low high) (kept_between b low high) Same
unfolding Narrows kept_between
narrows_same keep b low high each = (
  filter_is keep (between (keeps b) low high) (between (keeps b) low high) (rises_between (keeps b) low high) (rises_between (keeps b) low high)
      (λ v h e. h) (λ v h. (h, each v (has_between (keeps b) low high v h))),
  refl,
)

pub narrows_empty : (keep : ℤ → Bool) (b : Option Bitmap) (low high : ℤ) → ((v : ℤ) → Inside (keeps b) low high v → keep v ≡ true → ⊥) → Narrows keep (kept_between b low high) (kept_between b low high) Empty
unfolding Narrows kept_between
narrows_empty keep b low high none =
    (empty_by_members (filter keep (between (keeps b) low high)) (λ v h. let k = has_filter keep (between (keeps b) low high) v h in none v (has_between (keeps b) low high v k.0) k.1), refl)

pub narrows_changed : (keep : ℤ → Bool) (b c : Option Bitmap) (low high first last gone : ℤ)
    → ((v : ℤ) → Inside (keeps b) low high v → keep v ≡ true → Inside (keeps c) first last v)
    → ((v : ℤ) → Inside (keeps c) first last v → Inside (keeps b) low high v × (keep v ≡ true))
    → Inside (keeps b) low high gone → keep gone ≡ false
    → Narrows keep (kept_between b low high) (kept_between c first last) Changed
unfolding Narrows kept_between
narrows_changed keep b c low high first last gone there back was goes = (
  sym (filter_is keep (between (keeps b) low high) (between (keeps c) first last) (rises_between (keeps b) low high) (rises_between (keeps c) first last)
      (λ v h e. between_has (keeps c) first last v (there v (has_between (keeps b) low high v h) e))
      (λ v h. let k = back v (has_between (keeps c) first last v h) in (between_has (keeps b) low high v k.0, k.1))),
  λ same.
      let stays : Has gone (between (keeps c) first last) = subst (Has gone) (sym same) (between_has (keeps b) low high gone was) in
      false≢true (sym goes ∙ (back gone (has_between (keeps c) first last gone stays)).1),
)

-- the low bound rises to the first value that stays
pub cut_below_changes : (b c : Option Bitmap) (low high least first p q : ℤ) → IsSound b low high → low <ℤ least → least ≤ℤ first
    → ((v : ℤ) → least ≤ℤ v → v <ℤ first → keeps b v ≡ false)
    → ((v : ℤ) → first ≤ℤ v → v ≤ℤ high → keeps c v ≡ keeps b v)
    → p ≡ first → q ≡ high
    → Narrows (λ x. int_le least x) (kept_between b low high) (kept_between c p q) Changed
cut_below_changes b c low high least first p q s rises from none same p_is q_is =
    narrows_changed (λ x. int_le least x) b c low high p q low
    (λ v inside stays. there v inside.0 inside.1 inside.2 (le_from_test least v stays))
    (λ v inside.
    let after : first ≤ℤ v = omega (arith, ints, inside.0) in
    let before : v ≤ℤ high = omega (arith, ints, inside.1) in
    ((omega (arith, ints), before, sym (same v after before) ∙ inside.2), test_from_le least v (omega (arith, ints))))
    (omega (arith, ints), s.ordered, s.low_kept)
    (test_from_gt least low rises)
  where
    there : (v : ℤ) → low ≤ℤ v → v ≤ℤ high → keeps b v ≡ true → least ≤ℤ v → Inside (keeps c) p q v
    there v above below kept stays =
        by_lt_z v first
        (λ early. absurd (false≢true (sym (none v stays early) ∙ kept)))
        (λ later. (omega (arith, ints), omega (arith, ints), same v later below ∙ kept))

-- the high bound falls to the last value that stays
pub cut_above_changes : (b c : Option Bitmap) (low high most last p q : ℤ) → IsSound b low high → most <ℤ high → last ≤ℤ most
    → ((v : ℤ) → last <ℤ v → v ≤ℤ most → keeps b v ≡ false)
    → ((v : ℤ) → low ≤ℤ v → v ≤ℤ last → keeps c v ≡ keeps b v)
    → p ≡ low → q ≡ last
    → Narrows (λ x. int_le x most) (kept_between b low high) (kept_between c p q) Changed
cut_above_changes b c low high most last p q s falls to none same p_is q_is =
    narrows_changed (λ x. int_le x most) b c low high p q high
    (λ v inside stays. there v inside.0 inside.1 inside.2 (le_from_test v most stays))
    (λ v inside.
    let after : low ≤ℤ v = omega (arith, ints, inside.0) in
    let before : v ≤ℤ last = omega (arith, ints, inside.1) in
    ((after, omega (arith, ints), sym (same v after before) ∙ inside.2), test_from_le v most (omega (arith, ints))))
    (s.ordered, omega (arith, ints), s.high_kept)
    (test_from_gt high most falls)
  where
    there : (v : ℤ) → low ≤ℤ v → v ≤ℤ high → keeps b v ≡ true → v ≤ℤ most → Inside (keeps c) p q v
    there v above below kept stays =
        by_lt_z last v
        (λ late. absurd (false≢true (sym (none v late stays) ∙ kept)))
        (λ earlier. (omega (arith, ints), omega (arith, ints), same v above earlier ∙ kept))

pub cut_below_same : (b : Option Bitmap) (low high least : ℤ) → least ≤ℤ low → Narrows (λ x. int_le least x) (kept_between b low high) (kept_between b low high) Same
cut_below_same b low high least h = narrows_same (λ x. int_le least x) b low high (λ v inside. test_from_le least v (omega (arith, ints, inside.0)))

pub cut_below_empty : (b : Option Bitmap) (low high least : ℤ) → high <ℤ least → Narrows (λ x. int_le least x) (kept_between b low high) (kept_between b low high) Empty
cut_below_empty b low high least h = narrows_empty (λ x. int_le least x) b low high (λ v inside stays. let from : least ≤ℤ v = le_from_test least v stays in absurd (omega (arith, ints, inside.1)))

pub cut_above_same : (b : Option Bitmap) (low high most : ℤ) → high ≤ℤ most → Narrows (λ x. int_le x most) (kept_between b low high) (kept_between b low high) Same
cut_above_same b low high most h = narrows_same (λ x. int_le x most) b low high (λ v inside. test_from_le v most (omega (arith, ints, inside.1)))

pub cut_above_empty : (b : Option Bitmap) (low high most : ℤ) → most <ℤ low → Narrows (λ x. int_le x most) (kept_between b low high) (kept_between b low high) Empty
cut_above_empty b low high most h = narrows_empty (λ x. int_le x most) b low high (λ v inside stays. let to : v ≤ℤ most = le_from_test v most stays in absurd (omega (arith, ints, inside.0)))

-- ---- one value
eq_test : (a b : ℤ) → a ≡ b → int_eq a b ≡ true
eq_test a b e = (Decides-int_eq a b).1 e

eq_from_test : (a b : ℤ) → int_eq a b ≡ true → a ≡ b
eq_from_test a b e = (Decides-int_eq a b).0 e

ne_test : (a b : ℤ) → (a ≡ b → ⊥) → int_eq a b ≡ false
ne_test a b apart = false_from_ne_true (int_eq a b) (λ e. apart (eq_from_test a b e))

pub contains_inside : (b : Option Bitmap) (low high v : ℤ) → Contains (kept_between b low high) v → Inside (keeps b) low high v
contains_inside b low high v has = has_kept b low high v (has_from_contains _ v has)

pub inside_contains : (b : Option Bitmap) (low high v : ℤ) → Inside (keeps b) low high v → Contains (kept_between b low high) v
inside_contains b low high v inside = contains_from_has _ v (kept_has b low high v inside)

-- what `has` answered, at a number that was passed on
pub inside_from_has : (b : Option Bitmap) (low high v w : ℤ) (xs : List ℤ) (r : Bool) → kept_between b low high ≡ xs → w ≡ v → ((r ≡ true) ↔ Contains xs w) → r ≡ true → Inside (keeps b) low high v
inside_from_has b low high v w xs r view plain says answered =
    contains_inside b low high v (subst (λ ys. Contains ys v) (sym view) (subst (Contains xs) plain (says.0 answered)))

pub outside_from_has : (b : Option Bitmap) (low high v w : ℤ) (xs : List ℤ) (r : Bool) → kept_between b low high ≡ xs → w ≡ v → ((r ≡ true) ↔ Contains xs w) → r ≡ false → Inside (keeps b) low high v → ⊥
outside_from_has b low high v w xs r view plain says denied inside =
    false≢true (sym denied ∙ says.1 (subst (Contains xs) (sym plain) (subst (λ ys. Contains ys v) view (inside_contains b low high v inside))))

inside_at : (b : Option Bitmap) (low high v w : ℤ) → v ≡ w → Inside (keeps b) low high v → Inside (keeps b) low high w
inside_at b low high v w e inside = subst (Inside (keeps b) low high) e inside

pub fix_empty : (b : Option Bitmap) (low high value : ℤ) → (Inside (keeps b) low high value → ⊥) → Narrows (λ x. int_eq x value) (kept_between b low high) (kept_between b low high) Empty
fix_empty b low high value gone =
    narrows_empty (λ x. int_eq x value) b low high (λ v inside stays. gone (inside_at b low high v value (eq_from_test v value stays) inside))

pub fix_same : (b : Option Bitmap) (low high value : ℤ) → Inside (keeps b) low high value → low ≡ high → Narrows (λ x. int_eq x value) (kept_between b low high) (kept_between b low high) Same
fix_same b low high value here one =
    narrows_same (λ x. int_eq x value) b low high (λ v inside. eq_test v value (omega (arith, ints, here.0, here.1, inside.0, inside.1)))

pub none_keeps : (b : Option Bitmap) (value : ℤ) → keeps b value ≡ true → keeps None value ≡ keeps b value
unfolding keeps
none_keeps None value kept = refl
none_keeps (Some m) value kept = sym kept

-- one value alone needs no bitmap
pub one_sound : (b : Option Bitmap) (low high value : ℤ) → IsSound b low high → Inside (keeps b) low high value → IsSound None value value
unfolding keeps FitsHull
one_sound b low high value s inside = record {
  ordered = omega (arith, ints);
  low_within = (omega (arith, ints, inside.0, s.low_within.0), omega (arith, ints, inside.1, s.high_within.1));
  high_within = (omega (arith, ints, inside.0, s.low_within.0), omega (arith, ints, inside.1, s.high_within.1));
  low_kept = refl;
  high_kept = refl;
  hull = inl (omega (arith, ints));
}

pub sized_one : (p q value : ℤ) → IsSound None value value → p ≡ value → q ≡ value → IsSized None p q 1
sized_one p q value s p_is q_is = rw (p_is, q_is) (record { sound = s; counted = one_kept value })

pub fix_changes : (b c : Option Bitmap) (low high value p q : ℤ) → IsSound b low high → Inside (keeps b) low high value → (low ≡ high → ⊥)
    → keeps c value ≡ keeps b value → p ≡ value → q ≡ value
    → Narrows (λ x. int_eq x value) (kept_between b low high) (kept_between c p q) Changed
fix_changes b c low high value p q s here several same p_is q_is =
    let there : (v : ℤ) → Inside (keeps b) low high v → int_eq v value ≡ true → Inside (keeps c) p q v = λ v inside stays.
    let is : v ≡ value = eq_from_test v value stays in
    (omega (arith, ints), omega (arith, ints), subst (λ z. keeps c z ≡ true) (sym is) (same ∙ here.2)) in
    let back : (v : ℤ) → Inside (keeps c) p q v → Inside (keeps b) low high v × (int_eq v value ≡ true) = λ v inside.
    let is : v ≡ value = omega (arith, ints, inside.0, inside.1) in
    (inside_at b low high value v (sym is) here, eq_test v value is) in
    by_lt_z low value
    (λ above. narrows_changed (λ x. int_eq x value) b c low high p q low there back (omega (arith, ints), s.ordered, s.low_kept) (ne_test low value (λ e. absurd (omega (arith, ints)))))
    (λ not_above. narrows_changed (λ x. int_eq x value) b c low high p q high there back (s.ordered, omega (arith, ints), s.high_kept) (ne_test high value (λ e. several (omega (arith, ints, here.0)))))

-- ---- all but one value
above_test : (v value m : ℤ) → m ≡ value +ℤ pos 1 → value ≤ℤ v → int_le m v ≡ not (int_eq v value)
above_test v value m next from =
    by_lt_z value v
    (λ above. test_from_le m v (omega (arith, ints)) ∙ sym (not_from_false (int_eq v value) (ne_test v value (λ e. absurd (omega (arith, ints))))))
    (λ not_above. test_from_gt m v (omega (arith, ints)) ∙ sym (not_from_true (int_eq v value) (eq_test v value (omega (arith, ints)))))

below_test : (v value m : ℤ) → m ≡ value -ℤ pos 1 → v ≤ℤ value → int_le v m ≡ not (int_eq v value)
below_test v value m next to =
    by_lt_z v value
    (λ below. test_from_le v m (omega (arith, ints)) ∙ sym (not_from_false (int_eq v value) (ne_test v value (λ e. absurd (omega (arith, ints))))))
    (λ not_below. test_from_gt v m (omega (arith, ints)) ∙ sym (not_from_true (int_eq v value) (eq_test v value (omega (arith, ints)))))

pub not_held : (value : ℤ) (b : Option Bitmap) (low high : ℤ) → IsSound b low high → (low <ℤ value → value <ℤ high → b ≡ None → ⊥) → is_held value (kept_between b low high) ≡ false
unfolding is_held
not_held value b low high s free =
    false_from_ne_true _ (λ held.
    let parts = and_parts _ _ held in
    let bounds = and_parts _ _ parts.1 in
    let above : low <ℤ value = subst (λ z. z <ℤ value) (low_is_kept b low high s) (lt_from_test _ value bounds.0) in
    let below : value <ℤ high = subst (λ z. value <ℤ z) (high_is_kept b low high s) (lt_from_test value _ bounds.1) in
    free above below (wide_has_none b low high s.hull (lt_from_test _ _ (sym (wide_is b low high s) ∙ parts.0))))

drop_by_narrowing : (value : ℤ) (old new : List ℤ) (answer : Narrow) → is_held value old ≡ false → Narrows (λ x. not (int_eq x value)) old new answer → DropsValue value old new answer
unfolding DropsValue
drop_by_narrowing value old new answer free narrows =
    subst (λ t. MatchBool t ((answer ≡ Same) × (new ≡ old)) (Narrows (λ x. not (int_eq x value)) old new answer)) (sym free) narrows

-- a number that is no value
pub drop_absent : (b : Option Bitmap) (low high value : ℤ) → (Inside (keeps b) low high value → ⊥) → DropsValue value (kept_between b low high) (kept_between b low high) Same
unfolding DropsValue
drop_absent b low high value gone =
    let narrows : Narrows (λ x. not (int_eq x value)) (kept_between b low high) (kept_between b low high) Same =
    narrows_same (λ x. not (int_eq x value)) b low high
    (λ v inside. not_from_false (int_eq v value) (ne_test v value (λ e. gone (inside_at b low high v value e inside)))) in
    elim (is_held value (kept_between b low high)) as (λ t. MatchBool t ((Same ≡ Same) × (kept_between b low high ≡ kept_between b low high)) (Narrows (λ x. not (int_eq x value)) (kept_between b low high) (kept_between b low high) Same)) [
      | true ↦ (refl, refl)
      | false ↦ narrows
    ]

-- the only value
pub drop_only : (b : Option Bitmap) (low high value : ℤ) → IsSound b low high → Inside (keeps b) low high value → low ≡ high → DropsValue value (kept_between b low high) (kept_between b low high) Empty
drop_only b low high value s here one =
    drop_by_narrowing value _ _ Empty (not_held value b low high s (λ p q none. absurd (omega (arith, ints))))
    (narrows_empty (λ x. not (int_eq x value)) b low high
    (λ v inside stays. false≢true (sym (not-true (int_eq v value) stays) ∙ eq_test v value (omega (arith, ints, here.0, here.1, inside.0, inside.1)))))

-- a value strictly between the bounds of a domain without a bitmap
drop_held_none : (low high value : ℤ) → IsSound None low high → low <ℤ value → value <ℤ high → DropsValue value (kept_between None low high) (kept_between None low high) Same
unfolding DropsValue is_held FitsHull
drop_held_none low high value s above below =
    let wide : int_lt LARGEST_NARROW_HULL (high -ℤ low +ℤ pos 1) ≡ true = let hull : (low +ℤ LARGEST_NARROW_HULL) ≤ℤ high = ⊎_elim (λ few. absurd (omega (arith, ints))) (λ many. many) s.hull in test_from_lt LARGEST_NARROW_HULL (high -ℤ low +ℤ pos 1) (omega (arith, ints)) in
    let held : is_held value (kept_between None low high) ≡ true =
    and_from _ _ (wide_is None low high s ∙ wide)
    (and_from _ _ (test_from_lt _ _ (subst (λ z. z <ℤ value) (sym (low_is_kept None low high s)) above))
    (test_from_lt _ _ (subst (λ z. value <ℤ z) (sym (high_is_kept None low high s)) below))) in
    subst (λ t. MatchBool t ((Same ≡ Same) × (kept_between None low high ≡ kept_between None low high)) (Narrows (λ x. not (int_eq x value)) (kept_between None low high) (kept_between None low high) Same)) (sym held) (refl, refl)

pub drop_held : (b : Option Bitmap) (low high value : ℤ) → b ≡ None → IsSound b low high → low <ℤ value → value <ℤ high → DropsValue value (kept_between b low high) (kept_between b low high) Same
drop_held b low high value none s above below =
    subst (λ c. DropsValue value (kept_between c low high) (kept_between c low high) Same) (sym none)
    (drop_held_none low high value (subst (λ c. IsSound c low high) none s) above below)

-- two tests that agree at each value
filter_agrees : (p q : ℤ → Bool) (xs : List ℤ) → ((v : ℤ) → Has v xs → p v ≡ q v) → filter p xs ≡ filter q xs
filter_agrees p q [] agree = refl
filter_agrees p q (x ∷ xs) agree =
    let rest : filter p xs ≡ filter q xs = filter_agrees p q xs (λ v h. agree v (inr h)) in
    ap (λ t. cond t (x ∷ filter p xs) (filter p xs)) (agree x (inl refl)) ∙ ap (λ l. cond (q x) (x ∷ l) l) rest

narrows_agree : (p q : ℤ → Bool) (old new : List ℤ) (answer : Narrow) → ((v : ℤ) → Has v old → p v ≡ q v) → Narrows p old new answer → Narrows q old new answer
unfolding Narrows
narrows_agree p q old new Same agree narrows = (sym (filter_agrees p q old agree) ∙ narrows.0, narrows.1)
narrows_agree p q old new Changed agree narrows = (narrows.0 ∙ filter_agrees p q old agree, narrows.1)
narrows_agree p q old new Empty agree narrows = (sym (filter_agrees p q old agree) ∙ narrows.0, narrows.1)

pub drop_low : (b : Option Bitmap) (low high value m : ℤ) (old new : List ℤ) (answer : Narrow) → IsSound b low high → kept_between b low high ≡ old
    → Narrows (λ x. int_le m x) old new answer → value ≡ low → m ≡ value +ℤ pos 1 → DropsValue value old new answer
drop_low b low high value m old new answer s view narrows is next =
    drop_by_narrowing value old new answer (subst (λ xs. is_held value xs ≡ false) view (not_held value b low high s (λ p q none. absurd (omega (arith, ints)))))
    (narrows_agree (λ x. int_le m x) (λ x. not (int_eq x value)) old new answer
    (λ v h. above_test v value m next (omega (arith, ints, (has_kept b low high v (subst (Has v) (sym view) h)).0))) narrows)

pub drop_high : (b : Option Bitmap) (low high value m : ℤ) (old new : List ℤ) (answer : Narrow) → IsSound b low high → kept_between b low high ≡ old
    → Narrows (λ x. int_le x m) old new answer → value ≡ high → m ≡ value -ℤ pos 1 → DropsValue value old new answer
drop_high b low high value m old new answer s view narrows is next =
    drop_by_narrowing value old new answer (subst (λ xs. is_held value xs ≡ false) view (not_held value b low high s (λ p q none. absurd (omega (arith, ints)))))
    (narrows_agree (λ x. int_le x m) (λ x. not (int_eq x value)) old new answer
    (λ v h. below_test v value m next (omega (arith, ints, (has_kept b low high v (subst (Has v) (sym view) h)).1))) narrows)

-- a value strictly between the bounds of a domain with a bitmap
pub drop_inside : (b c : Bitmap) (low high value p q : ℤ) → IsSound (Some b) low high → Inside (keeps (Some b)) low high value → low <ℤ value → value <ℤ high
    → keeps (Some c) value ≡ false → ((v : ℤ) → low ≤ℤ v → v ≤ℤ high → (v ≡ value → ⊥) → keeps (Some c) v ≡ keeps (Some b) v)
    → p ≡ low → q ≡ high
    → DropsValue value (kept_between (Some b) low high) (kept_between (Some c) p q) Changed
drop_inside b c low high value p q s here above below gone same p_is q_is =
    drop_by_narrowing value _ _ Changed (not_held value (Some b) low high s (λ from to none. absurd (some_is_not_none b none)))
    (narrows_changed (λ x. not (int_eq x value)) (Some b) (Some c) low high p q value
    (λ v inside stays.
    let apart : v ≡ value → ⊥ = λ e. false≢true (sym (not-true (int_eq v value) stays) ∙ eq_test v value e) in
    (omega (arith, ints, inside.0), omega (arith, ints, inside.1), same v inside.0 inside.1 apart ∙ inside.2))
    (λ v inside.
    let apart : v ≡ value → ⊥ = λ e. false≢true (sym gone ∙ ap (keeps (Some c)) (sym e) ∙ inside.2) in
    let from : low ≤ℤ v = omega (arith, ints, inside.0) in
    let to : v ≤ℤ high = omega (arith, ints, inside.1) in
    ((from, to, sym (same v from to apart) ∙ inside.2), not_from_false (int_eq v value) (ne_test v value apart)))
    here
    (not_from_true (int_eq value value) (eq_test value value refl)))
  where
    some_is_not_none : (b : Bitmap) → Some b ≡ None → ⊥
    some_is_not_none b e = cc

-- the bitmap of a domain has a place for each number between the bounds
pub covers_one : (m : Bitmap) (low high v : ℤ) → FitsHull (Some m) low high → low ≤ℤ v → v ≤ℤ high → Covers m v v
unfolding FitsHull
covers_one m low high v fits above below =
    let from : m.base ≤ℤ low = fits.2.from in
    let to : high <ℤ (m.base +ℤ LARGEST_NARROW_HULL) = fits.2.to in
    record { from = omega (arith, ints); to = omega (arith, ints) }

-- a bitmap with the same base has a place for each of them too
pub covers_all : (m n : Bitmap) (low high p q : ℤ) → FitsHull (Some m) low high → n.base ≡ m.base → p ≡ low → q ≡ high → Covers n p q
unfolding FitsHull
covers_all m n low high p q fits base p_is q_is =
    let from : m.base ≤ℤ low = fits.2.from in
    let to : high <ℤ (m.base +ℤ LARGEST_NARROW_HULL) = fits.2.to in
    record { from = omega (arith, ints); to = omega (arith, ints) }

pub sized_marked : (n : Bitmap) (low high p q : ℤ) (size : ℕ) → size ≡ length (filter (marks n) (range p q)) → IsSound (Some n) low high → p ≡ low → q ≡ high
    → IsSized (Some n) low high size
unfolding keeps kept_between
sized_marked n low high p q size counted sound p_is q_is = record { sound = sound; counted = counted ∙ rw (p_is, q_is) refl }

-- one mark was taken
pub unmarked_others : (m n : Bitmap) (low high value : ℤ) → FitsHull (Some m) low high
    → ((v : ℤ) → Covers m v v → (v ≡ value → ⊥) → marks n v ≡ marks m v)
    → (v : ℤ) → low ≤ℤ v → v ≤ℤ high → (v ≡ value → ⊥) → keeps (Some n) v ≡ keeps (Some m) v
unfolding keeps
unmarked_others m n low high value fits others v above below apart = others v (covers_one m low high v fits above below) apart

pub unmarked_gone : (n : Bitmap) (value : ℤ) → marks n value ≡ false → keeps (Some n) value ≡ false
unfolding keeps
unmarked_gone n value gone = gone

pub unmarked_sound : (m n : Bitmap) (low high value : ℤ) → IsSound (Some m) low high → (value ≡ low → ⊥) → (value ≡ high → ⊥) → n.base ≡ m.base
    → ((v : ℤ) → low ≤ℤ v → v ≤ℤ high → (v ≡ value → ⊥) → keeps (Some n) v ≡ keeps (Some m) v)
    → IsSound (Some n) low high
unfolding FitsHull
unmarked_sound m n low high value s not_low not_high base same =
    let from : m.base ≤ℤ low = s.hull.2.from in
    let to : high <ℤ (m.base +ℤ LARGEST_NARROW_HULL) = s.hull.2.to in
    record {
      ordered = s.ordered;
      low_within = s.low_within;
      high_within = s.high_within;
      low_kept = same low (omega (arith, ints)) s.ordered (λ e. not_low (sym e)) ∙ s.low_kept;
      high_kept = same high s.ordered (omega (arith, ints)) (λ e. not_high (sym e)) ∙ s.high_kept;
      hull = (s.hull.0, s.hull.1, record { from = omega (arith, ints); to = omega (arith, ints) });
    }

changed_is_not_same : Changed ≡ Same → ⊥
changed_is_not_same e = cc

-- ---- what stays has fewer values
filter_le : (keep : ℤ → Bool) (xs : List ℤ) → length (filter keep xs) ≤ length xs
filter_le keep [] = omega arith
filter_le keep (x ∷ xs) = let rest : length (filter keep xs) ≤ length xs = filter_le keep xs in elim (keep x) as (λ t. length (cond t (x ∷ filter keep xs) (filter keep xs)) ≤ suc (length xs)) [ true ↦ omega arith | false ↦ omega arith ]

filter_lt : (keep : ℤ → Bool) (xs : List ℤ) → filter keep xs ≢ xs → length (filter keep xs) < length xs
filter_lt keep [] apart = absurd (apart refl)
filter_lt keep (x ∷ xs) apart =
    let few : length (filter keep xs) ≤ length xs = filter_le keep xs in
    let later : filter keep xs ≢ xs → length (filter keep xs) < length xs = filter_lt keep xs in
    one_more (keep x) few later apart
  where
    one_more : (t : Bool) → length (filter keep xs) ≤ length xs → (filter keep xs ≢ xs → length (filter keep xs) < length xs) → cond t (x ∷ filter keep xs) (filter keep xs) ≢ (x ∷ xs) → length (cond t (x ∷ filter keep xs) (filter keep xs)) < suc (length xs)
    one_more true few later apart = let less : length (filter keep xs) < length xs = later (λ e. apart (ap (λ l. x ∷ l) e)) in omega arith
    one_more false few later apart = omega arith

pub narrows_falls : (keep : ℤ → Bool) (old new : List ℤ) → Narrows keep old new Changed → length new < length old
unfolding Narrows
narrows_falls keep old new h =
    let less : length (filter keep old) < length old = filter_lt keep old (λ e. h.1 (h.0 ∙ e)) in
    subst (λ l. length l < length old) (sym h.0) less

pub drops_falls : (value : ℤ) (old new : List ℤ) → DropsValue value old new Changed → length new < length old
unfolding DropsValue
drops_falls value old new h =
    drops_falls_by (is_held value old) h
  where
    drops_falls_by : (t : Bool) → MatchBool t ((Changed ≡ Same) × (new ≡ old)) (Narrows (λ x. not (int_eq x value)) old new Changed) → length new < length old
    drops_falls_by true h = absurd (changed_is_not_same h.0)
    drops_falls_by false h = narrows_falls (λ x. not (int_eq x value)) old new h
