-- Members of lists, of filtered and of mapped ones.
use Rattle.std.proofs.Common.{◌≡◌, ◌≤◌, zero, suc, List, [], ◌∷◌, ◌++◌, length, map, refl, ap, arith, Bool, true, false, inl, inr, ◌⊎◌}
use Rattle.std.specs.Prelude.{Contains, filter, not}
use Rattle.std.specs.List.{list_any}
use Rattle.std.proofs.lemmas.Bool.{false≢true, or_parts}
use Rattle.std.proofs.lemmas.List.Elements.{All-contains, Contains-append_cases, Contains-append_left, filter_passes}
use Rattle.std.proofs.lemmas.List.Filters.{length-filter_both}
use Rattle.std.proofs.lemmas.List.Sorted.{IsPermutation-filter_both, IsPermutation-sym, Contains-permutation}

-- ---- a list and its first member
pub has_first : {X : Type 0} (x : X) (xs : List X) (w : X) → x ≡ w → Contains (x ∷ xs) w
has_first x xs w e = (zero, omega arith, e)

pub has_later : {X : Type 0} (x : X) (xs : List X) (w : X) → Contains xs w → Contains (x ∷ xs) w
has_later x xs w (k, h, e) = (suc k, omega (arith, h), e)

pub has_cases : {X : Type 0} (x : X) (xs : List X) (w : X) → Contains (x ∷ xs) w → (x ≡ w) ⊎ Contains xs w
has_cases x xs w (zero, h, e) = inl e
has_cases x xs w (suc k, h, e) = inr (k, omega (arith, h), e)

pub has_no : {X : Type 0} (w : X) → Contains [] w → ⊥
has_no w (k, h, e) = omega (arith, h)

-- ---- a filtered list
pub filter_passed : {X : Type 0} (p : X → Bool) (xs : List X) (x : X) → Contains (filter p xs) x → p x ≡ true
filter_passed p xs x has = All-contains (λ y. p y ≡ true) (filter p xs) x (filter_passes p xs) has

pub filter_kept : {X : Type 0} (p : X → Bool) (xs : List X) (x : X) → Contains (filter p xs) x → Contains xs x
filter_kept p xs x has = Contains-permutation (filter p xs ++ filter (λ y. not (p y)) xs) xs x
    (IsPermutation-sym xs (filter p xs ++ filter (λ y. not (p y)) xs) (IsPermutation-filter_both p (λ y. not (p y)) (λ y. refl) xs))
    (Contains-append_left (filter p xs) (filter (λ y. not (p y)) xs) x has)

pub filter_has : {X : Type 0} (p : X → Bool) (xs : List X) (x : X) → Contains xs x → p x ≡ true → Contains (filter p xs) x
filter_has p xs x has e = elim (Contains-append_cases (filter p xs) (filter (λ y. not (p y)) xs) x (Contains-permutation xs (filter p xs ++ filter (λ y. not (p y)) xs) x (IsPermutation-filter_both p (λ y. not (p y)) (λ y. refl) xs) has)) [
  | inl in_front ↦ in_front
  | inr behind ↦ absurd (neither (p x) e (filter_passed (λ y. not (p y)) xs x behind))
]
  where
    neither : (t : Bool) → t ≡ true → not t ≡ true → ⊥
    neither true e f = false≢true f
    neither false e f = false≢true e

pub filter_shorter : {X : Type 0} (p : X → Bool) (xs : List X) → length (filter p xs) ≤ length xs
filter_shorter p xs = omega (arith, length-filter_both p (λ x. not (p x)) (λ x. refl) xs)

pub filter_none : {X : Type 0} (p : X → Bool) (xs : List X) → list_any p xs ≡ false → filter p xs ≡ []
filter_none p [] e = refl
filter_none p (x ∷ xs) e =
    let both = or_parts (p x) (list_any p xs) e in
    let first : p x ≡ false = both.0 in
    rw first (filter_none p xs both.1)

-- ---- a mapped list
pub map_has : {X Y : Type 0} (f : X → Y) (xs : List X) (x : X) → Contains xs x → Contains (map f xs) (f x)
map_has f [] x has = absurd (has_no x has)
map_has f (y ∷ ys) x (zero, h, e) = has_first (f y) (map f ys) (f x) (ap f e)
map_has f (y ∷ ys) x (suc k, h, e) = has_later (f y) (map f ys) (f x) (map_has f ys x (k, omega (arith, h), e))

pub map_from : {X Y : Type 0} (f : X → Y) (xs : List X) (y : Y) → Contains (map f xs) y → (x : X) × Contains xs x × (f x ≡ y)
map_from f [] y has = absurd (has_no y has)
map_from f (x ∷ xs) y (zero, h, e) = (x, has_first x xs x refl, e)
map_from f (x ∷ xs) y (suc k, h, e) = let (w, has, same) = map_from f xs y (k, omega (arith, h), e) in (w, has_later x xs w has, same)
