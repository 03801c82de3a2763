-- What follows from a domain's values and from a narrowing, for the crates above.
use Rattle.std.proofs.Common.{◌≡◌, suc, zero, List, [], ◌∷◌, refl, sym, subst, ◌∙◌, arith, Bool, true, false, not, inl, inr}
use Rattle.std.specs.Prelude.{ℤ, pos, ◌≤ℤ◌, ◌<ℤ◌, filter, AllPairs, Contains, MatchBool}
use Rattle.std.specs.Ordering.{int_eq}
use Rattle.std.proofs.lemmas.Int.{ints}
use Rattle.std.proofs.lemmas.List.Elements.{recursion_from_All}
use Rattle.int_domain.specs.declared.narrow.Narrow.{Narrow}
use Rattle.int_domain.specs.declared.narrow.Narrow.TheVariants.{Same, Changed, Empty}
use Rattle.int_domain.specs.Values.{low_of, high_of, last_after, is_wide, IsDomain}
use Rattle.int_domain.specs.Narrowing.{Narrows, DropsValue, is_held}
use Rattle.int_domain.proofs.Members.{Has, Rises, all_has, same_by_members, has_filter, filter_has, range_has, contains_from_has, has_from_contains}

-- a rising list by its places is one by recursion
rises_from_pairs : (xs : List ℤ) → AllPairs (λ x y. x <ℤ y) xs → Rises xs
rises_from_pairs [] pairs = tt
rises_from_pairs (x ∷ xs) pairs = (
  recursion_from_All (λ y. x <ℤ y) xs (λ k d h. pairs zero (suc k) d (omega arith) (omega arith)),
  rises_from_pairs xs (λ i j d p q. pairs (suc i) (suc j) d (omega arith) (omega arith)),
)

pub domain_rises : (xs : List ℤ) → IsDomain xs → Rises xs
domain_rises xs d = rises_from_pairs xs d.rising

-- ---- the bounds
low_least : (xs : List ℤ) (v : ℤ) → Rises xs → Has v xs → low_of xs ≤ℤ v
unfolding low_of
low_least [] v r h = absurd h
low_least (x ∷ xs) v r h =
    elim h [ inl e ↦ omega (arith, ints) | inr k ↦ let above : x <ℤ v = all_has (λ y. x <ℤ y) xs v r.0 k in omega (arith, ints) ]

last_most : (before : ℤ) (xs : List ℤ) (v : ℤ) → Rises xs → Has v xs → v ≤ℤ last_after before xs
last_most before [] v r h = absurd h
last_most before (x ∷ []) v r h = elim h [ inl e ↦ omega (arith, ints) | inr k ↦ absurd k ]
last_most before (x ∷ y ∷ ys) v r h =
    let later : y ≤ℤ last_after x (y ∷ ys) = last_most x (y ∷ ys) y r.1 (inl refl) in
    elim h [
      | inl e ↦ let above : x <ℤ y = r.0.0 in omega (arith, ints, later)
      | inr k ↦ last_most x (y ∷ ys) v r.1 k
    ]

has_last : (x : ℤ) (xs : List ℤ) → Has (last_after x xs) (x ∷ xs)
has_last x [] = inl refl
has_last x (y ∷ ys) = inr (has_last y ys)

-- each value lies between the bounds
pub contained_between : (xs : List ℤ) (v : ℤ) → IsDomain xs → Contains xs v → (low_of xs ≤ℤ v) × (v ≤ℤ high_of xs)
unfolding high_of
contained_between xs v d has =
    let here : Has v xs = has_from_contains xs v has in
    (low_least xs v (domain_rises xs d) here, last_most (pos 0) xs v (domain_rises xs d) here)

-- the bounds are values
pub low_contained : (xs : List ℤ) → IsDomain xs → Contains xs (low_of xs)
unfolding low_of
low_contained [] d = absurd (d.some refl)
low_contained (x ∷ xs) d = contains_from_has (x ∷ xs) x (inl refl)

pub high_contained : (xs : List ℤ) → IsDomain xs → Contains xs (high_of xs)
unfolding high_of
high_contained [] d = absurd (d.some refl)
high_contained (x ∷ xs) d = contains_from_has (x ∷ xs) (last_after x xs) (has_last x xs)

-- a wide domain has each number between its bounds
pub wide_contains : (xs : List ℤ) (v : ℤ) → IsDomain xs → is_wide xs ≡ true → low_of xs ≤ℤ v → v ≤ℤ high_of xs → Contains xs v
wide_contains xs v d wide p q = subst (λ ys. Contains ys v) (sym (d.no_gap wide)) (contains_from_has _ v (range_has (low_of xs) (high_of xs) v p q))

-- domains with the same values are equal
pub same_domain : (xs ys : List ℤ) → IsDomain xs → IsDomain ys → ((v : ℤ) → Contains xs v → Contains ys v) → ((v : ℤ) → Contains ys v → Contains xs v) → xs ≡ ys
same_domain xs ys d e there back =
    same_by_members xs ys (domain_rises xs d) (domain_rises ys e)
    (λ v h. has_from_contains ys v (there v (contains_from_has xs v h)))
    (λ v h. has_from_contains xs v (back v (contains_from_has ys v h)))

-- ---- what passes a test
pub contains_from_filter : (keep : ℤ → Bool) (xs : List ℤ) (v : ℤ) → Contains (filter keep xs) v → Contains xs v × (keep v ≡ true)
contains_from_filter keep xs v has =
    let here = has_filter keep xs v (has_from_contains (filter keep xs) v has) in
    (contains_from_has xs v here.0, here.1)

pub filter_contains : (keep : ℤ → Bool) (xs : List ℤ) (v : ℤ) → Contains xs v → keep v ≡ true → Contains (filter keep xs) v
filter_contains keep xs v has passes = contains_from_has (filter keep xs) v (filter_has keep xs v (has_from_contains xs v has) passes)

-- where some values stay, they are those that pass
pub narrows_is : (keep : ℤ → Bool) (old new : List ℤ) (answer : Narrow) → Narrows keep old new answer → (answer ≡ Empty → ⊥) → new ≡ filter keep old
unfolding Narrows
narrows_is keep old new Same n some = n.1 ∙ sym n.0
narrows_is keep old new Changed n some = n.0
narrows_is keep old new Empty n some = absurd (some refl)

-- a narrowing adds no value
pub narrows_within : (keep : ℤ → Bool) (old new : List ℤ) (answer : Narrow) (v : ℤ) → Narrows keep old new answer → Contains new v → Contains old v
unfolding Narrows
narrows_within keep old new Same v n has = subst (λ xs. Contains xs v) n.1 has
narrows_within keep old new Changed v n has = (contains_from_filter keep old v (subst (λ xs. Contains xs v) n.0 has)).0
narrows_within keep old new Empty v n has = subst (λ xs. Contains xs v) n.1 has

-- at `Empty` no value passes
pub none_passes : (keep : ℤ → Bool) (old new : List ℤ) (v : ℤ) → Narrows keep old new Empty → Contains old v → keep v ≡ true → ⊥
unfolding Narrows
none_passes keep old new v n has passes =
    let here : Contains [] v = subst (λ xs. Contains xs v) n.0 (filter_contains keep old v has passes) in
    omega (arith, here.1)

pub drops_within : (value : ℤ) (old new : List ℤ) (answer : Narrow) (v : ℤ) → DropsValue value old new answer → Contains new v → Contains old v
unfolding DropsValue
drops_within value old new answer v drops has = drops_within_by (is_held value old) drops
  where
    drops_within_by : (t : Bool) → MatchBool t ((answer ≡ Same) × (new ≡ old)) (Narrows (λ x. not (int_eq x value)) old new answer) → Contains old v
    drops_within_by true held = subst (λ xs. Contains xs v) held.1 has
    drops_within_by false narrows = narrows_within (λ x. not (int_eq x value)) old new answer v narrows has
