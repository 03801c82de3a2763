-- Lists that rise by a total order, each member once: what insertion keeps, and that two with the same members are equal.
use Rattle.std.proofs.Common.{◌≡◌, suc, ◌≤◌, List, [], ◌∷◌, length, refl, sym, ap, ◌∙◌, arith, ℤ, inl, inr, ◌⊎◌, Ordering}
use Rattle.std.specs.Prelude.{Contains, ◌↔◌}
use Rattle.std.specs.declared.cmp.Ordering.TheVariants.{Less, Equal, Greater}
use Rattle.std.specs.Ordering.{int_cmp, match_ordering, ordering_reverse, ordering_then}
use Rattle.std.specs.Cmp.{IsTotalOrder}
use Rattle.std.specs.Cmp.Lexicographic.{slice_cmp}
use Rattle.std.specs.List.Sorted.{IsStrictlySortedBy}
use Rattle.std.specs.BTreeSet.{BTreeSet, insert_key, contains}
use Rattle.std.proofs.lemmas.Cmp.{int_cmp_total, lists_total}
use Rattle.std.proofs.lemmas.List.Elements.{All-from_recursion, recursion_from_All, All-weaker}
use Rattle.std.proofs.lemmas.Map.Keys.{sorted_tail}
use Rattle.std.proofs.lemmas.Map.Lookups.{CmpEqualImpliesEq, exact_signed, btree_set_from_contains}
use Rattle.std.proofs.lemmas.Map.Views.{All-insert_key, btree_set_contains_iff}
use Rattle.rest_basic.proofs.ListMembers.{has_first, has_later, has_cases, has_no}
use Rattle.rest_forms.specs.Forms.{rising_by}
use Rattle.rest_forms.proofs.ValueTests.{alike}

-- ---- one more
module _ {K : Type 0} (R : K → K → Ordering) (o : IsTotalOrder R) (exact : CmpEqualImpliesEq R) where
  to_by : (k x w : K) (xs : List K) → ((w ≡ k) ⊎ Contains xs w → Contains (insert_key R xs k) w) → (r : Ordering) → R k x ≡ r → (w ≡ k) ⊎ Contains (x ∷ xs) w → Contains (match_ordering r (k ∷ x ∷ xs) (x ∷ xs) (x ∷ insert_key R xs k)) w
  to_by k x w xs rest Less e (inl is) = has_first k (x ∷ xs) w (sym is)
  to_by k x w xs rest Less e (inr has) = has_later k (x ∷ xs) w has
  to_by k x w xs rest Equal e (inl is) = has_first x xs w (sym (exact k x e) ∙ sym is)
  to_by k x w xs rest Equal e (inr has) = has
  to_by k x w xs rest Greater e (inl is) = has_later x (insert_key R xs k) w (rest (inl is))
  to_by k x w xs rest Greater e (inr has) = elim (has_cases x xs w has) [
    | inl is ↦ has_first x (insert_key R xs k) w is
    | inr later ↦ has_later x (insert_key R xs k) w (rest (inr later))
  ]

  insert_to : (ks : List K) (k w : K) → (w ≡ k) ⊎ Contains ks w → Contains (insert_key R ks k) w
  insert_to [] k w (inl is) = has_first k [] w (sym is)
  insert_to [] k w (inr has) = absurd (has_no w has)
  insert_to (x ∷ xs) k w h = to_by k x w xs (insert_to xs k w) (R k x) refl h

  from_by : (k x w : K) (xs : List K) → (Contains (insert_key R xs k) w → (w ≡ k) ⊎ Contains xs w) → (r : Ordering) → Contains (match_ordering r (k ∷ x ∷ xs) (x ∷ xs) (x ∷ insert_key R xs k)) w → (w ≡ k) ⊎ Contains (x ∷ xs) w
  from_by k x w xs rest Less h = elim (has_cases k (x ∷ xs) w h) [ inl is ↦ inl (sym is) | inr later ↦ inr later ]
  from_by k x w xs rest Equal h = inr h
  from_by k x w xs rest Greater h = elim (has_cases x (insert_key R xs k) w h) [
    | inl is ↦ inr (has_first x xs w is)
    | inr later ↦ elim (rest later) [ inl new ↦ inl new | inr old ↦ inr (has_later x xs w old) ]
  ]

  insert_from : (ks : List K) (k w : K) → Contains (insert_key R ks k) w → (w ≡ k) ⊎ Contains ks w
  insert_from [] k w h = elim (has_cases k [] w h) [ inl is ↦ inl (sym is) | inr none ↦ absurd (has_no w none) ]
  insert_from (x ∷ xs) k w h = from_by k x w xs (insert_from xs k w) (R k x) h

  pub insert_has : (ks : List K) (k w : K) → Contains (insert_key R ks k) w ↔ ((w ≡ k) ⊎ Contains ks w)
  insert_has ks k w = (insert_from ks k w, insert_to ks k w)

  sorted_by : (k x : K) (xs : List K) → IsStrictlySortedBy R (x ∷ xs) → IsStrictlySortedBy R (insert_key R xs k) → (r : Ordering) → R k x ≡ r → IsStrictlySortedBy R (match_ordering r (k ∷ x ∷ xs) (x ∷ xs) (x ∷ insert_key R xs k))
  unfolding IsStrictlySortedBy
  sorted_by k x xs sorted rest Less e =
      let after = recursion_from_All (λ y. R k y ≡ Less) xs (All-weaker (λ y. R x y ≡ Less) (λ y. R k y ≡ Less) (λ y f. o.trans k x y e f) xs (All-from_recursion (λ y. R x y ≡ Less) xs sorted.0)) in
      ((e, after), sorted)
  sorted_by k x xs sorted rest Equal e = sorted
  sorted_by k x xs sorted rest Greater e =
      let back : R x k ≡ Less = o.antisymm x k ∙ ap ordering_reverse e in
      (recursion_from_All (λ y. R x y ≡ Less) (insert_key R xs k) (All-insert_key R k (λ y. R x y ≡ Less) xs (All-from_recursion (λ y. R x y ≡ Less) xs sorted.0) back), rest)

  none_sorted : IsStrictlySortedBy R []
  unfolding IsStrictlySortedBy
  none_sorted = tt

  one_sorted : (k : K) → IsStrictlySortedBy R (k ∷ [])
  unfolding IsStrictlySortedBy
  one_sorted k = (tt, tt)

  pub insert_sorted : (ks : List K) (k : K) → IsStrictlySortedBy R ks → IsStrictlySortedBy R (insert_key R ks k)
  insert_sorted [] k sorted = one_sorted k
  insert_sorted (x ∷ xs) k sorted = sorted_by k x xs sorted (insert_sorted xs k (sorted_tail R x xs sorted)) (R k x) refl

  -- two such lists with the same members are equal
  pub same_members : (xs ys : List K) → IsStrictlySortedBy R xs → IsStrictlySortedBy R ys → ((w : K) → Contains xs w ↔ Contains ys w) → xs ≡ ys
  same_members xs ys sx sy same = btree_set_from_contains o (set_of xs) (set_of ys) sx sy (λ q.
      let one = btree_set_contains_iff o exact (set_of xs) q in
      let other = btree_set_contains_iff o exact (set_of ys) q in
      alike (contains R (set_of xs) q) (contains R (set_of ys) q) (λ e. other.1 ((same q).0 (one.0 e))) (λ e. one.1 ((same q).1 (other.0 e)))) exact
    where
      set_of : List K → BTreeSet K
      set_of ks = record { keys = ks }

-- ---- how many
count_by : {K : Type 0} (R : K → K → Ordering) (k x : K) (xs : List K) (r : Ordering) → length (insert_key R xs k) ≤ suc (length xs) → length (match_ordering r (k ∷ x ∷ xs) (x ∷ xs) (x ∷ insert_key R xs k)) ≤ suc (suc (length xs))
count_by R k x xs Less h = omega arith
count_by R k x xs Equal h = omega arith
count_by R k x xs Greater h = omega (arith, h)

insert_count : {K : Type 0} (R : K → K → Ordering) (ks : List K) (k : K) → length (insert_key R ks k) ≤ suc (length ks)
insert_count R [] k = omega arith
insert_count R (x ∷ xs) k = count_by R k x xs (R k x) (insert_count R xs k)

pub rising_count : {K : Type 0} (R : K → K → Ordering) (xs : List K) → length (rising_by R xs) ≤ length xs
rising_count R [] = omega arith
rising_count R (x ∷ xs) = omega (arith, insert_count R (rising_by R xs) x, rising_count R xs)

-- ---- the members of a list, rising
module _ {K : Type 0} (R : K → K → Ordering) (o : IsTotalOrder R) (exact : CmpEqualImpliesEq R) where
  pub rising_sorted : (xs : List K) → IsStrictlySortedBy R (rising_by R xs)
  rising_sorted [] = none_sorted R o exact
  rising_sorted (x ∷ xs) = insert_sorted R o exact (rising_by R xs) x (rising_sorted xs)

  pub rising_has : (xs : List K) (w : K) → Contains (rising_by R xs) w ↔ Contains xs w
  rising_has [] w = (λ h. h, λ h. h)
  rising_has (x ∷ xs) w =
      let step = insert_has R o exact (rising_by R xs) x w in
      let rest = rising_has xs w in (
        (λ h. elim (step.0 h) [ inl is ↦ has_first x xs w (sym is) | inr old ↦ has_later x xs w (rest.0 old) ]),
        (λ h. elim (has_cases x xs w h) [ inl is ↦ step.1 (inl (sym is)) | inr later ↦ step.1 (inr (rest.1 later)) ]),
      )

-- ---- the order of rows
pub exact_rows : CmpEqualImpliesEq (slice_cmp int_cmp)
exact_rows [] [] e = refl
exact_rows [] (y ∷ ys) e = (cc)
exact_rows (x ∷ xs) [] e = (cc)
exact_rows (x ∷ xs) (y ∷ ys) e =
    let both = both_equal (int_cmp x y) (slice_cmp int_cmp xs ys) e in
    let first : x ≡ y = exact_signed x y both.0 in
    let rest : xs ≡ ys = exact_rows xs ys both.1 in
    (cc)
  where
    both_equal : (a b : Ordering) → ordering_then a b ≡ Equal → (a ≡ Equal) × (b ≡ Equal)
    both_equal Less b e = (cc)
    both_equal Equal b e = (refl, e)
    both_equal Greater b e = (cc)

pub rows_total : IsTotalOrder (slice_cmp int_cmp)
rows_total = lists_total int_cmp_total

-- ---- numbers and rows, rising
pub numbers_sorted : (zs : List ℤ) → IsStrictlySortedBy int_cmp (rising_by int_cmp zs)
numbers_sorted = rising_sorted int_cmp int_cmp_total exact_signed

pub numbers_have : (zs : List ℤ) (w : ℤ) → Contains (rising_by int_cmp zs) w ↔ Contains zs w
numbers_have = rising_has int_cmp int_cmp_total exact_signed

pub rows_sorted : (rows : List (List ℤ)) → IsStrictlySortedBy (slice_cmp int_cmp) (rising_by (slice_cmp int_cmp) rows)
rows_sorted = rising_sorted (slice_cmp int_cmp) rows_total exact_rows

pub rows_have : (rows : List (List ℤ)) (w : List ℤ) → Contains (rising_by (slice_cmp int_cmp) rows) w ↔ Contains rows w
rows_have = rising_has (slice_cmp int_cmp) rows_total exact_rows
