-- The values of one domain: its bounds, that all values lie between them, and how many there are.
use Rattle.std.specs.Prelude.{◌≡◌, zero, suc, ◌<◌, ◌≤◌, ◌+◌, ◌*◌, List, [], ◌∷◌, length, slice_index_or, ℤ, pos, negsuc, ◌+ℤ◌, ◌-ℤ◌, ◌≤ℤ◌, ◌<ℤ◌, All, AllPairs, Contains}
use Rattle.std.proofs.Common.{refl, sym, subst, ap, arith, inl, inr}
use Rattle.std.proofs.lemmas.Int.{ints}
use Rattle.std.proofs.lemmas.Bool.{cases_lt}
use Rattle.fzn_model.specs.Boxes.{IsDomain, low_value, high_value, last_after}
use Rattle.fzn_model.specs.Values.{largest}
use Rattle.fzn_model.specs.Limits.{IsValue}

low_least : (xs : List ℤ) (v : ℤ) → AllPairs (λ x y. x <ℤ y) xs → Contains xs v → low_value xs ≤ℤ v
unfolding low_value
low_least [] v rising (k, h, e) = absurd (omega arith)
low_least (x ∷ xs) v rising (zero, h, e) = omega (arith, ints)
low_least (x ∷ xs) v rising (suc k, h, e) =
    let above : x <ℤ slice_index_or xs k v = rising zero (suc k) v (omega arith) (omega arith) in
    omega (arith, ints)

last_at : (x : ℤ) (xs : List ℤ) (d : ℤ) → last_after x xs ≡ slice_index_or (x ∷ xs) (length xs) d
last_at x [] d = refl
last_at x (y ∷ ys) d = last_at y ys d

high_most : (xs : List ℤ) (v : ℤ) → AllPairs (λ x y. x <ℤ y) xs → Contains xs v → v ≤ℤ high_value xs
unfolding high_value
high_most [] v rising (k, h, e) = absurd (omega arith)
high_most (x ∷ xs) v rising (k, h, e) =
    let last : last_after x xs ≡ slice_index_or (x ∷ xs) (length xs) v = last_at x xs v in
    elim (cases_lt k (length xs)) [
      | inl before ↦ let above : slice_index_or (x ∷ xs) k v <ℤ slice_index_or (x ∷ xs) (length xs) v = rising k (length xs) v before (omega arith) in omega (arith, ints)
      | inr after ↦ let here : k ≡ length xs = omega arith in let is : slice_index_or (x ∷ xs) (length xs) v ≡ v = subst (λ i. slice_index_or (x ∷ xs) i v ≡ v) here e in omega (arith, ints)
    ]

-- each value lies between the bounds
pub between : (xs : List ℤ) (v : ℤ) → IsDomain xs → Contains xs v → (low_value xs ≤ℤ v) × (v ≤ℤ high_value xs)
between xs v d has = (low_least xs v d.rising has, high_most xs v d.rising has)

-- the bounds are values
pub low_in : (xs : List ℤ) → IsDomain xs → Contains xs (low_value xs)
unfolding low_value
low_in [] d = absurd (d.some refl)
low_in (x ∷ xs) d = (zero, omega arith, refl)

pub high_in : (xs : List ℤ) → IsDomain xs → Contains xs (high_value xs)
unfolding high_value
high_in [] d = absurd (d.some refl)
high_in (x ∷ xs) d = (length xs, omega arith, sym (last_at x xs (last_after x xs)))

-- a domain whose bounds are equal has one value
pub one_value : (xs : List ℤ) (value : ℤ) → IsDomain xs → value ≡ low_value xs → value ≡ high_value xs → xs ≡ value ∷ []
unfolding low_value
one_value [] value d low high = absurd (d.some refl)
one_value (x ∷ []) value d low high = ap (λ z. z ∷ []) (sym low)
one_value (x ∷ y ∷ ys) value d low high =
    let first : x <ℤ y = d.rising zero 1 (pos 0) (omega arith) (omega arith) in
    let most = high_most (x ∷ y ∷ ys) y d.rising (1, omega arith, refl) in
    absurd (omega (arith, ints, most))

pub more_values : (xs : List ℤ) → IsDomain xs → (low_value xs ≡ high_value xs → ⊥) → 1 < length xs
unfolding low_value high_value
more_values [] d apart = absurd (d.some refl)
more_values (x ∷ []) d apart = absurd (apart refl)
more_values (x ∷ y ∷ ys) d apart = omega arith

length_within : (low high : ℤ) (xs : List ℤ) → AllPairs (λ x y. x <ℤ y) xs → All (λ x. low ≤ℤ x) xs → All (λ x. x ≤ℤ high) xs → low ≤ℤ (high +ℤ pos 1) → (low +ℤ pos (length xs)) ≤ℤ (high +ℤ pos 1)
length_within low high [] rising above below h = omega (arith, ints)
length_within low high (x ∷ xs) rising above below h =
    let from : low ≤ℤ x = above zero x (omega arith) in
    let to : x ≤ℤ high = below zero x (omega arith) in
    let rest = length_within (x +ℤ pos 1) high xs
    (λ i j d lt inside. rising (suc i) (suc j) d (omega arith) (omega arith))
    (λ k d inside. let later : x <ℤ slice_index_or xs k d = rising zero (suc k) d (omega arith) (omega arith) in omega (arith, ints))
    (λ k d inside. below (suc k) d (omega arith))
    (omega (arith, ints)) in
    omega (arith, ints, rest)

value_from : (z : ℤ) → IsValue z → (pos 0 -ℤ pos largest) ≤ℤ z
value_from (pos n) v = omega (arith, ints)
value_from (negsuc n) v = omega (arith, ints)

value_to : (z : ℤ) → IsValue z → z ≤ℤ pos largest
value_to (pos n) v = omega (arith, ints)
value_to (negsuc n) v = omega (arith, ints)

-- a domain has at most as many values as there are
pub few_values : (xs : List ℤ) → IsDomain xs → length xs ≤ 2 * largest + 1
few_values xs d =
    let few = length_within (pos 0 -ℤ pos largest) (pos largest) xs d.rising (λ k e h. value_from _ (d.within k e h)) (λ k e h. value_to _ (d.within k e h)) (omega (arith, ints)) in
    omega (arith, ints, few)
