-- What the number of all values tells of the domain of one variable before some went.
use Rattle.std.specs.Prelude.{◌≡◌, ℕ, zero, suc, ◌+◌, ◌≤◌, List, [], ◌∷◌, length, slice_index_or, ℤ, pos, ◌+ℤ◌, ◌-ℤ◌, ◌≤ℤ◌, ◌<ℤ◌, AllPairs, Contains}
use Rattle.std.specs.List.{IsDistinct}
use Rattle.std.specs.Ordering.{int_eq}
use Rattle.std.proofs.Common.{refl, sym, subst, ap, arith, inl, inr}
use Rattle.std.proofs.lemmas.Bool.{cases_lt}
use Rattle.std.proofs.lemmas.Int.{ints}
use Rattle.std.proofs.lemmas.List.{get_or_past}
use Rattle.std.proofs.lemmas.List.Sums.{sum_by-cons}
use Rattle.fzn_model.proofs.Pigeons.{distinct_none, distinct_more}
use Rattle.fzn_model.specs.Boxes.{IsBox, IsDomain, domain_at, low_value, high_value}
use Rattle.int_domain.specs.Values.{numbers_from}
use Rattle.int_domain.proofs.Members.{has_from_contains, contains_from_has, has_numbers, rises_numbers}
use Rattle.alldiff_prop.proofs.Pigeons.{rises_apart, pigeons}
use Rattle.dom_store.specs.Stores.{box_size}
use Rattle.dom_store.specs.Narrowing.{Loses}
use Rattle.prop_engine.specs.Events.{IsStirred, IsMinor}
use Rattle.prop_engine.proofs.Hearing.{beyond_fixed}

-- ---- one domain
rising_apart : (xs : List ℤ) → AllPairs (λ x y. x <ℤ y) xs → IsDistinct int_eq xs
rising_apart [] rises = distinct_none
rising_apart (x ∷ xs) rises =
    distinct_more x xs
    (λ has. let less : x <ℤ slice_index_or xs has.0 x = rises zero (suc has.0) x (omega arith) (omega (arith, has.1)) in absurd (omega (arith, ints, less, has.2)))
    (rising_apart xs (λ i j d less h. rises (suc i) (suc j) d (omega (arith, less)) (omega (arith, h))))

-- a domain within another one has no more values
fewer_values : (old new : List ℤ) → AllPairs (λ x y. x <ℤ y) new → ((z : ℤ) → Contains new z → Contains old z) → length new ≤ length old
fewer_values old new rises within = pigeons new old (rising_apart new rises) (λ v h. has_from_contains old v (within v (contains_from_has new v h)))

length_numbers : (low : ℤ) (n : ℕ) → length (numbers_from low n) ≡ n
unfolding numbers_from
length_numbers low zero = refl
length_numbers low (suc n) = ap suc (length_numbers (low +ℤ pos 1) n)

-- a wide domain has many values
many_values : (xs : List ℤ) (n : ℕ) → n ≤ 1025 → IsDomain xs → pos 1024 ≤ℤ (high_value xs -ℤ low_value xs) → n ≤ length xs
many_values xs n few is wide =
    let low = low_value xs in
    let most = pigeons (numbers_from low n) xs (rises_apart (numbers_from low n) (rises_numbers low n)) (λ v h. let r = has_numbers low n v h in has_from_contains xs v (is.whole wide v r.0 (omega (arith, ints, few, wide, r.1)))) in
    subst (λ m. m ≤ length xs) (length_numbers low n) most

-- ---- all domains
one_more : (x : List ℤ) (xs : List (List ℤ)) → box_size (x ∷ xs) ≡ length x + box_size xs
unfolding box_size
one_more x xs = sum_by-cons length x xs

sizes_fall : (old new : List (List ℤ)) → length new ≡ length old → ((k : ℕ) → length (domain_at new k) ≤ length (domain_at old k)) → box_size new ≤ box_size old
sizes_fall [] [] count falls = omega arith
sizes_fall [] (y ∷ ys) count falls = absurd (omega (arith, count))
sizes_fall (x ∷ xs) [] count falls = absurd (omega (arith, count))
sizes_fall (x ∷ xs) (y ∷ ys) count falls =
    let rest = sizes_fall xs ys (omega (arith, count)) (λ k. falls (suc k)) in
    let first : length y ≤ length x = falls zero in
    omega (arith, rest, first, one_more x xs, one_more y ys)

-- one domain has lost at most as many values as all together
part_falls : (old new : List (List ℤ)) (k : ℕ) → length new ≡ length old → ((j : ℕ) → length (domain_at new j) ≤ length (domain_at old j)) → length (domain_at old k) + box_size new ≤ length (domain_at new k) + box_size old
part_falls [] [] k count falls = omega arith
part_falls [] (y ∷ ys) k count falls = absurd (omega (arith, count))
part_falls (x ∷ xs) [] k count falls = absurd (omega (arith, count))
part_falls (x ∷ xs) (y ∷ ys) zero count falls =
    let rest = sizes_fall xs ys (omega (arith, count)) (λ j. falls (suc j)) in
    let both : length x + box_size (y ∷ ys) ≤ length y + box_size (x ∷ xs) = omega (arith, rest, one_more x xs, one_more y ys) in
    both
part_falls (x ∷ xs) (y ∷ ys) (suc k) count falls =
    let rest : length (domain_at xs k) + box_size ys ≤ length (domain_at ys k) + box_size xs = part_falls xs ys k (omega (arith, count)) (λ j. falls (suc j)) in
    let first : length y ≤ length x = falls zero in
    let both : length (domain_at xs k) + box_size (y ∷ ys) ≤ length (domain_at ys k) + box_size (x ∷ xs) = omega (arith, rest, first, one_more x xs, one_more y ys) in
    both

-- ---- a minor change
module _ (P : List ℤ → Type 0) (old new : List (List ℤ)) (loses : Loses P old new) (was : IsBox old) (is : IsBox new) where
  falls_each : (k : ℕ) → length (domain_at new k) ≤ length (domain_at old k)
  falls_each k = elim (cases_lt k (length new)) [
    | inl here ↦ fewer_values (domain_at old k) (domain_at new k) (is k [] here).rising (loses.within k)
    | inr far ↦ subst (λ (d : List ℤ). length d ≤ length (domain_at old k)) (sym (get_or_past new k [] far)) (omega arith)
  ]

  pub minor_stirred : (before k : ℕ) → before ≡ box_size old → IsMinor before new k → IsStirred old new k
  minor_stirred before k same minor = record {
    unfixed = minor.unfixed;
    narrow = λ wide. elim (cases_lt k (length new)) [
      | inl here ↦ (
          let many = many_values (domain_at old k) 1025 (omega arith) (was k [] (omega (arith, here, loses.count))) wide in
          let part = part_falls old new k loses.count falls_each in
          absurd (omega (arith, many, part, same, minor.few))
          )
      | inr far ↦ absurd (minor.unfixed (beyond_fixed new k far))
    ];
  }
