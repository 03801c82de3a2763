-- How many members of a list pass a test.
use Rattle.std.proofs.Common.{◌≡◌, ℕ, zero, suc, ◌+◌, ◌<◌, ◌≤◌, List, [], ◌∷◌, length, refl, sym, subst, ◌∙◌, arith, inl, inr, true, false, Bool, cond, map}
use Rattle.std.specs.Prelude.{ℤ, filter, slice_index_or}
use Rattle.std.specs.List.Sorted.{IsPermutation}
use Rattle.std.proofs.lemmas.Bool.{false≢true}
use Rattle.std.proofs.lemmas.List.Sums.{length-filter}
use Rattle.std.proofs.lemmas.List.Sorted.{sum_by-IsPermutation}
use Rattle.int_domain.proofs.Members.{Has}

module _ {X : Type 0} (p : X → Bool) where
  passed_more : (x : X) (xs : List X) (n : ℕ) → p x ≡ true → n ≤ length (filter p xs) → suc n ≤ length (filter p (x ∷ xs))
  passed_more x xs n is more = subst (λ t. suc n ≤ length (cond t (x ∷ filter p xs) (filter p xs))) (sym is) (omega (arith, more))

  passed_still : (x : X) (xs : List X) (n : ℕ) → n ≤ length (filter p xs) → n ≤ length (filter p (x ∷ xs))
  passed_still x xs n more = elim (p x) as (λ t. n ≤ length (cond t (x ∷ filter p xs) (filter p xs))) [ true ↦ omega (arith, more) | false ↦ more ]

  failed_more : (x : X) (xs : List X) (n : ℕ) → p x ≡ false → length (filter p xs) ≤ n → length (filter p (x ∷ xs)) ≤ n
  failed_more x xs n is less = subst (λ t. length (cond t (x ∷ filter p xs) (filter p xs)) ≤ n) (sym is) less

  failed_still : (x : X) (xs : List X) (n : ℕ) → length (filter p xs) ≤ n → length (filter p (x ∷ xs)) ≤ suc n
  failed_still x xs n less = elim (p x) as (λ t. length (cond t (x ∷ filter p xs) (filter p xs)) ≤ suc n) [ true ↦ omega (arith, less) | false ↦ omega (arith, less) ]

  -- those in front pass
  pub front_passes : (xs : List X) (n : ℕ) → n ≤ length xs → ((k : ℕ) (d : X) → k < n → p (slice_index_or xs k d) ≡ true) → n ≤ length (filter p xs)
  front_passes xs zero within all = omega arith
  front_passes [] (suc n) within all = absurd (omega (arith, within))
  front_passes (x ∷ xs) (suc n) within all =
      passed_more x xs n (all zero x (omega arith)) (front_passes xs n (omega (arith, within)) (λ k d h. all (suc k) d (omega (arith, h))))

  -- those from a place on fail
  pub back_fails : (xs : List X) (n : ℕ) → ((k : ℕ) (d : X) → n ≤ k → k < length xs → p (slice_index_or xs k d) ≡ false) → length (filter p xs) ≤ n
  back_fails [] n all = omega arith
  back_fails (x ∷ xs) zero all = failed_more x xs zero (all zero x (omega arith) (omega arith)) (back_fails xs zero (λ k d h within. all (suc k) d (omega arith) (omega (arith, within))))
  back_fails (x ∷ xs) (suc n) all = failed_still x xs n (back_fails xs n (λ k d h within. all (suc k) d (omega (arith, h)) (omega (arith, within))))

  -- only those from one place up to another pass
  pub band_passes : (xs : List X) (a b : ℕ) → a ≤ b → b ≤ length xs → ((k : ℕ) (d : X) → k < a → p (slice_index_or xs k d) ≡ false) → ((k : ℕ) (d : X) → a ≤ k → k < b → p (slice_index_or xs k d) ≡ true)
      → ((k : ℕ) (d : X) → b ≤ k → k < length xs → p (slice_index_or xs k d) ≡ false) → length (filter p xs) + a ≡ b
  band_passes xs zero b order within before inside after =
      let most = back_fails xs b after in
      let least = front_passes xs b within (λ k d h. inside k d (omega arith) h) in
      omega (arith, most, least)
  band_passes xs (suc a) zero order within before inside after = absurd (omega (arith, order))
  band_passes [] (suc a) (suc b) order within before inside after = absurd (omega (arith, within))
  band_passes (x ∷ xs) (suc a) (suc b) order within before inside after =
      let rest = band_passes xs a b (omega (arith, order)) (omega (arith, within)) (λ k d h. before (suc k) d (omega (arith, h))) (λ k d h g. inside (suc k) d (omega (arith, h)) (omega (arith, g))) (λ k d h g. after (suc k) d (omega (arith, h)) (omega (arith, g))) in
      subst (λ t. length (cond t (x ∷ filter p xs) (filter p xs)) + suc a ≡ suc b) (sym (before zero x (omega arith))) (omega (arith, rest))

  -- one passes, or two
  one_passes : (xs : List X) (j : ℕ) (d : X) → j < length xs → p (slice_index_or xs j d) ≡ true → 1 ≤ length (filter p xs)
  one_passes [] j d h is = absurd (omega (arith, h))
  one_passes (x ∷ xs) zero d h is = passed_more x xs zero is (omega arith)
  one_passes (x ∷ xs) (suc j) d h is = passed_still x xs 1 (one_passes xs j d (omega (arith, h)) is)

  pub two_pass : (xs : List X) (i j : ℕ) (d : X) → i < j → j < length xs → p (slice_index_or xs i d) ≡ true → p (slice_index_or xs j d) ≡ true → 2 ≤ length (filter p xs)
  two_pass [] i j d less h first second = absurd (omega (arith, h))
  two_pass (x ∷ xs) i zero d less h first second = absurd (omega (arith, less))
  two_pass (x ∷ xs) zero (suc j) d less h first second = passed_more x xs 1 first (one_passes xs j d (omega (arith, h)) second)
  two_pass (x ∷ xs) (suc i) (suc j) d less h first second = passed_still x xs 2 (two_pass xs i j d (omega (arith, less)) (omega (arith, h)) first second)

  -- as many in another order
  pub passed_moved : (xs ys : List X) → IsPermutation xs ys → length (filter p ys) ≡ length (filter p xs)
  passed_moved xs ys moved = length-filter p ys ∙ sum_by-IsPermutation (λ x. cond (p x) 1 0) xs ys moved ∙ sym (length-filter p xs)

  -- a value of one that passes
  found_by : (f : X → ℤ) (x : X) (xs : List X) (v : ℤ) (t : Bool) → p x ≡ t → (Has v (map f (filter p xs)) → (k : ℕ) × (k < length xs) × ((d : X) → f (slice_index_or xs k d) ≡ v) × ((d : X) → p (slice_index_or xs k d) ≡ true))
      → Has v (map f (cond t (x ∷ filter p xs) (filter p xs))) → (k : ℕ) × (k < suc (length xs)) × ((d : X) → f (slice_index_or (x ∷ xs) k d) ≡ v) × ((d : X) → p (slice_index_or (x ∷ xs) k d) ≡ true)
  found_by f x xs v true is later h = elim h [
    | inl e ↦ (zero, omega arith, (λ d. sym e), (λ d. is))
    | inr k ↦ let found = later k in (suc found.0, omega (arith, found.1), (λ d. found.2 d), (λ d. found.3 d))
  ]
  found_by f x xs v false is later h = let found = later h in (suc found.0, omega (arith, found.1), (λ d. found.2 d), (λ d. found.3 d))

  pub found : (f : X → ℤ) (xs : List X) (v : ℤ) → Has v (map f (filter p xs)) → (k : ℕ) × (k < length xs) × ((d : X) → f (slice_index_or xs k d) ≡ v) × ((d : X) → p (slice_index_or xs k d) ≡ true)
  found f [] v h = absurd h
  found f (x ∷ xs) v h = found_by f x xs v (p x) refl (found f xs v) h

-- where what passes one test passes another, no more pass the first
fewer_by : {X : Type 0} (x : X) (ps qs : List X) (s t : Bool) → (s ≡ true → t ≡ true) → length ps ≤ length qs → length (cond s (x ∷ ps) ps) ≤ length (cond t (x ∷ qs) qs)
fewer_by x ps qs true true more less = omega (arith, less)
fewer_by x ps qs true false more less = absurd (false≢true (more refl))
fewer_by x ps qs false true more less = omega (arith, less)
fewer_by x ps qs false false more less = less

pub fewer : {X : Type 0} (p q : X → Bool) (xs : List X) → ((k : ℕ) (d : X) → k < length xs → p (slice_index_or xs k d) ≡ true → q (slice_index_or xs k d) ≡ true) → length (filter p xs) ≤ length (filter q xs)
fewer p q [] more = omega arith
fewer p q (x ∷ xs) more =
    fewer_by x (filter p xs) (filter q xs) (p x) (q x) (more zero x (omega arith)) (fewer p q xs (λ k d h is. more (suc k) d (omega (arith, h)) is))
