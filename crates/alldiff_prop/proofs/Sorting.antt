-- Numbers in order.
use Rattle.std.proofs.Common.{◌≡◌, ℕ, ◌+◌, ◌≤◌, List, [], ◌∷◌, length, refl, sym, ap, subst, ◌∙◌, arith, inl, inr, true, false}
use Rattle.std.specs.Prelude.{ℤ, pos, ◌+ℤ◌, ◌<ℤ◌, ◌≤ℤ◌, int_le, int_lt, ◌&&◌, slice_index_or, AllPairs, Contains}
use Rattle.std.specs.List.{dedup}
use Rattle.std.specs.List.Sorted.{IsPermutation, IsSorted, IsStrictlySortedBy, IsPartitionedBy, IsPartitionPoint}
use Rattle.std.specs.Ordering.{int_cmp, int_eq, is_lt}
use Rattle.std.specs.declared.cmp.Ordering.TheVariants.{Less}
use Rattle.std.specs.Cmp.{int_ranks}
use Rattle.std.proofs.lemmas.Int.{ints}
use Rattle.std.proofs.lemmas.Bool.{false≢true, and_left, and_right, and_from, cases_lt}
use Rattle.std.proofs.lemmas.Bool.Decides.{Decides-int_eq}
use Rattle.std.proofs.lemmas.Cmp.{int_cmp_total, int_eq_equiv, by_ranked}
use Rattle.std.proofs.lemmas.List.Elements.{All-from_recursion}
use Rattle.std.proofs.lemmas.List.Kept.{AllPairs-cons, IsStrictlySortedBy-dedup, Contains-dedup, Contains-from_dedup}
use Rattle.std.proofs.lemmas.List.Sorted.{sorted_far, ranks_by, Contains-permutation, IsPermutation-sym}
use Rattle.int_domain.proofs.Narrowed.{test_from_le, test_from_gt}
use Rattle.alldiff_prop.specs.Rising.{Climbs, Rises, IsSplit, IsRising, how_many_within}
use Rattle.alldiff_prop.proofs.Counting.{band_passes}

-- ---- what a sort leaves
not_less : (a b : ℤ) → is_lt (int_cmp a b) ≡ false → b ≤ℤ a
not_less a b e = by_ranked _ _ _ (int_cmp a b) (int_ranks a b)
    (λ is less. absurd (false≢true (sym e ∙ ap is_lt is)))
    (λ is same. omega (arith, ints, same))
    (λ is more. omega (arith, ints, more))

pub sorted_climbs : (xs : List ℤ) → IsSorted int_cmp xs → Climbs xs
unfolding Climbs
sorted_climbs xs sorted i j d less h = not_less _ _ (sorted_far (λ x y. is_lt (int_cmp x y)) (ranks_by int_cmp_total (λ x. x)) xs sorted i j d (omega (arith, less)) h)

less_from : (a b : ℤ) → int_cmp a b ≡ Less → a <ℤ b
less_from a b e = by_ranked _ _ _ (int_cmp a b) (int_ranks a b) (λ is less. less) (λ is same. absurd (cc)) (λ is more. absurd (cc))

strictly_rises : (xs : List ℤ) → IsStrictlySortedBy int_cmp xs → AllPairs (λ x y. x <ℤ y) xs
unfolding IsStrictlySortedBy
strictly_rises [] sorted = λ i j d less h. absurd (omega (arith, h))
strictly_rises (x ∷ xs) sorted =
    AllPairs-cons (λ x y. x <ℤ y) x xs (λ k d h. less_from _ _ (All-from_recursion (λ y. int_cmp x y ≡ Less) xs sorted.0 k d h)) (strictly_rises xs sorted.1)

pub rising_is : (given sorted rising : List ℤ) → IsPermutation given sorted → IsSorted int_cmp sorted → rising ≡ dedup int_eq sorted → IsRising given rising
unfolding Rises
rising_is given sorted rising moved order is = record {
  rises = subst (AllPairs (λ x y. x <ℤ y)) (sym is) (strictly_rises (dedup int_eq sorted) (IsStrictlySortedBy-dedup int_cmp_total (λ x y. refl) sorted order));
  has = λ z h. subst (λ l. Contains l z) (sym is) (Contains-dedup int_eq_equiv (λ x y. (Decides-int_eq x y).0) sorted z (Contains-permutation given sorted z moved h));
  from = λ z h. Contains-permutation sorted given z (IsPermutation-sym given sorted moved) (Contains-from_dedup int_eq sorted z (subst (λ l. Contains l z) is h));
}

-- ---- where a list is split
pub rises_climbs : (xs : List ℤ) → Rises xs → Climbs xs
unfolding Rises Climbs
rises_climbs xs rises i j d less h = let r = rises i j d less h in omega (arith, ints, r)

-- the numbers of low..high stand between two places
pub within_is : (xs : List ℤ) (low high next : ℤ) (a b : ℕ) → low ≤ℤ high → next ≡ high +ℤ pos 1 → IsSplit xs low a → IsSplit xs next b → how_many_within xs low high + a ≡ b
unfolding how_many_within
within_is xs low high next a b h is first second =
    band_passes (λ z. int_le low z && int_le z high) xs a b
    (omega (arith, first.within, in_order))
    second.within
    (λ k d less. and_left (int_le low (slice_index_or xs k d)) _ (test_from_gt low (slice_index_or xs k d) (first.before k d less)))
    (λ k d from less. and_from (int_le low (slice_index_or xs k d)) _ (test_from_le low _ (first.after k d from (omega (arith, less, second.within)))) (let s = second.before k d less in test_from_le _ high (omega (arith, ints, s, is))))
    (λ k d from less. and_right (int_le low (slice_index_or xs k d)) _ (let s = second.after k d from less in test_from_gt _ high (omega (arith, ints, s, is))))
  where
    in_order : a ≤ b
    in_order = elim (cases_lt b a) [
      | inl less ↦ let one = first.before b low less in let other = second.after b low (omega arith) (omega (arith, less, first.within)) in absurd (omega (arith, ints, one, other, h, is))
      | inr more ↦ more
    ]

lt_test : (a b : ℤ) → int_lt a b ≡ true → a <ℤ b
lt_test a b e = grind (arith, ints)

test_lt : (a b : ℤ) → a <ℤ b → int_lt a b ≡ true
test_lt a b h = grind (arith, ints)

lt_fails : (a b : ℤ) → int_lt a b ≡ false → b ≤ℤ a
lt_fails a b e = grind (arith, ints)

-- what is less than a number stands in front
pub parted : (xs : List ℤ) (number : ℤ) → Climbs xs → IsPartitionedBy (λ x. int_lt x number) xs
unfolding Climbs
parted xs number climbs i j d order h less = elim (cases_lt i j) [
  | inl apart ↦ let up = climbs i j d apart h in let below = lt_test (slice_index_or xs j d) number less in test_lt (slice_index_or xs i d) number (omega (arith, ints, up, below))
  | inr over ↦ let same : j ≡ i = omega (arith, order, over) in subst (λ k. int_lt (slice_index_or xs k d) number ≡ true) same less
]

pub split_at : (xs : List ℤ) (number : ℤ) (place : ℕ) → place ≤ length xs → IsPartitionPoint (λ x. int_lt x number ≡ true) (λ x. int_lt x number ≡ false) xs place → IsSplit xs number place
split_at xs number place within point = record {
  within = within;
  before = λ k d h. lt_test _ _ (point.0 k d (omega arith) h);
  after = λ k d h more. lt_fails _ _ (point.1 k d h more);
}
