-- The numbers of an interval that aren't taken.
use Rattle.std.proofs.Common.{◌≡◌, ℕ, zero, suc, ◌+◌, ◌≤◌, List, [], ◌∷◌, length, refl, sym, ap, subst, ◌∙◌, arith, inl, inr, true, Bool}
use Rattle.std.specs.Prelude.{ℤ, pos, ◌+ℤ◌, ◌<ℤ◌, ◌≤ℤ◌, int_le, not, ◌&&◌, filter, Contains}
use Rattle.std.specs.Int.{int_gap}
use Rattle.std.specs.List.{list_any, IsDistinct}
use Rattle.std.specs.Ordering.{int_eq}
use Rattle.std.proofs.lemmas.Int.{ints}
use Rattle.std.proofs.lemmas.Bool.{false≢true, false_from_ne_true, not-true, not_from_false, and_parts, and_from, cases_Bool}
use Rattle.std.proofs.lemmas.Bool.Decides.{Decides-int_eq}
use Rattle.std.proofs.lemmas.Cmp.{int_eq_equiv}
use Rattle.std.proofs.lemmas.Map.Views.{list_any-from_Contains, Contains-from_any}
use Rattle.std.proofs.lemmas.List.Filters.{length-filter_both}
use Rattle.int_domain.specs.Values.{range, numbers_from}
use Rattle.std.proofs.lemmas.List.Elements.{recursion_from_All}
use Rattle.int_domain.proofs.Members as members
use Rattle.int_domain.proofs.Narrowed.{le_from_test, test_from_le}
use Rattle.int_domain.proofs.Members.{Has, has_filter, filter_has, has_range, range_has, rises_range, rises_filter, gap_is, contains_from_has, has_from_contains}
use Rattle.fzn_model.proofs.Pigeons.{distinct_none}
use Rattle.dom_store.specs.Strength.{free_count}
use Rattle.alldiff_prop.specs.Rising.{Rises, IsRising, how_many_within}
use Rattle.alldiff_prop.proofs.Pigeons.{has_more, rises_apart, pigeons, pigeons_fill, same_length}

-- ---- being taken as a test
abbrev pub is_taken : List ℤ → ℤ → Bool
is_taken taken z = list_any (int_eq z) taken

abbrev pub is_free : List ℤ → ℤ → Bool
is_free taken z = not (list_any (int_eq z) taken)

pub taken_at : (taken : List ℤ) (z : ℤ) → Contains taken z → is_taken taken z ≡ true
taken_at taken z has = list_any-from_Contains int_eq_equiv z taken has

pub at_taken : (taken : List ℤ) (z : ℤ) → is_taken taken z ≡ true → Contains taken z
at_taken taken z is = Contains-from_any (λ x y. (Decides-int_eq x y).0) z taken is

pub free_test : (taken : List ℤ) (z : ℤ) → (Contains taken z → ⊥) → is_free taken z ≡ true
free_test taken z free = not_from_false (is_taken taken z) (false_from_ne_true (is_taken taken z) (λ is. free (at_taken taken z is)))

pub test_free : (taken : List ℤ) (z : ℤ) → is_free taken z ≡ true → Contains taken z → ⊥
test_free taken z is has = false≢true (sym (not-true (is_taken taken z) is) ∙ taken_at taken z has)

-- ---- the free numbers of low..high
abbrev pub free_list : List ℤ → ℤ → ℤ → List ℤ
free_list taken low high = filter (λ z. not (list_any (int_eq z) taken)) (range low high)

pub has_free : (taken : List ℤ) (low high z : ℤ) → Has z (free_list taken low high) → (low ≤ℤ z) × (z ≤ℤ high) × (Contains taken z → ⊥)
has_free taken low high z h =
    let found = has_filter (is_free taken) (range low high) z h in
    let inside = has_range low high z found.0 in
    (inside.0, inside.1, test_free taken z found.1)

pub free_has : (taken : List ℤ) (low high z : ℤ) → low ≤ℤ z → z ≤ℤ high → (Contains taken z → ⊥) → Has z (free_list taken low high)
free_has taken low high z from to free = filter_has (is_free taken) (range low high) z (range_has low high z from to) (free_test taken z free)

pub free_apart : (taken : List ℤ) (low high : ℤ) → IsDistinct int_eq (free_list taken low high)
free_apart taken low high = rises_apart (free_list taken low high) (rises_filter (is_free taken) (range low high) (rises_range low high))

-- numbers that differ, each of them free in low..high, are no more than those that are free there
pub free_fits : (taken : List ℤ) (low high : ℤ) (xs : List ℤ) → IsDistinct int_eq xs → ((v : ℤ) → Has v xs → (low ≤ℤ v) × (v ≤ℤ high) × (Contains taken v → ⊥)) → length xs ≤ free_count taken low high
free_fits taken low high xs apart inside = pigeons xs (free_list taken low high) apart (λ v h. let i = inside v h in free_has taken low high v i.0 i.1 i.2)

-- where they are as many, no other is free there
pub free_filled : (taken : List ℤ) (low high : ℤ) (xs : List ℤ) (z : ℤ) → IsDistinct int_eq xs → ((v : ℤ) → Has v xs → (low ≤ℤ v) × (v ≤ℤ high) × (Contains taken v → ⊥)) → free_count taken low high ≤ length xs
    → low ≤ℤ z → z ≤ℤ high → (Contains taken z → ⊥) → (Has z xs → ⊥) → ⊥
free_filled taken low high xs z apart inside many from to free new =
    pigeons_fill xs (free_list taken low high) z apart (λ v h. let i = inside v h in free_has taken low high v i.0 i.1 i.2) many (free_has taken low high z from to free) new

-- a longer interval has no fewer free numbers
pub free_more : (taken : List ℤ) (low high far : ℤ) → high ≤ℤ far → free_count taken low high ≤ free_count taken low far
free_more taken low high far h = free_fits taken low far (free_list taken low high) (free_apart taken low high)
    (λ v k. let f = has_free taken low high v k in (f.0, (let below : v ≤ℤ high = f.1 in omega (arith, ints)), f.2))

-- where it has as many, all beyond the shorter are taken
pub free_beyond : (taken : List ℤ) (low high far z : ℤ) → high ≤ℤ far → free_count taken low far ≤ free_count taken low high → low ≤ℤ z → high <ℤ z → z ≤ℤ far → (Contains taken z → ⊥) → ⊥
free_beyond taken low high far z h same from beyond to free =
    free_filled taken low far (free_list taken low high) z (free_apart taken low high)
    (λ v k. let f = has_free taken low high v k in (f.0, (let below : v ≤ℤ high = f.1 in omega (arith, ints)), f.2))
    same from to free
    (λ k. let below : z ≤ℤ high = (has_free taken low high z k).1 in absurd (omega (arith, ints)))

-- an interval from a free number on has one
pub free_first : (taken : List ℤ) (low high : ℤ) → (Contains taken low → ⊥) → low ≤ℤ high → 1 ≤ free_count taken low high
free_first taken low high free h =
    free_fits taken low high (low ∷ []) (has_more low [] (λ h. h) distinct_none)
    (λ v k. elim k [ inl e ↦ (omega (arith, ints, e), omega (arith, ints, e), subst (λ w. Contains taken w → ⊥) (sym e) free) | inr none ↦ absurd none ])

-- a single number has at most one
pub free_single : (taken : List ℤ) (z : ℤ) → free_count taken z z ≤ 1
free_single taken z = pigeons (free_list taken z z) (z ∷ []) (free_apart taken z z)
    (λ v k. let f = has_free taken z z v k in inl (omega (arith, ints, f.0, f.1)))

pub none_free : (taken : List ℤ) (z : ℤ) → free_count taken z z ≡ 0 → Contains taken z
none_free taken z none = elim (cases_Bool (is_taken taken z)) [
  | inl is ↦ at_taken taken z is
  | inr isnt ↦ absurd (omega (arith, none, free_first taken z z (λ has. false≢true (sym isnt ∙ taken_at taken z has)) (omega (arith, ints))))
]

pub taken_none : (taken : List ℤ) (z : ℤ) → Contains taken z → free_count taken z z ≡ 0
taken_none taken z has =
    let few = pigeons (free_list taken z z) [] (free_apart taken z z)
    (λ v k. let f = has_free taken z z v k in let is : z ≡ v = omega (arith, ints, f.0, f.1) in f.2 (subst (λ w. Contains taken w) is has)) in
    omega (arith, few)

-- ---- how many there are
length_numbers : (low : ℤ) (n : ℕ) → length (numbers_from low n) ≡ n
unfolding numbers_from
length_numbers low zero = refl
length_numbers low (suc n) = ap suc (length_numbers (low +ℤ pos 1) n)

length_range : (low high : ℤ) (n : ℕ) → low ≤ℤ high → low +ℤ pos n ≡ high +ℤ pos 1 → length (range low high) ≡ n
unfolding range
length_range low high n h is =
    let many : low +ℤ pos (int_gap low (high +ℤ pos 1)) ≡ high +ℤ pos 1 = gap_is low (high +ℤ pos 1) (omega (arith, ints)) in
    let same : int_gap low (high +ℤ pos 1) ≡ n = omega (arith, ints) in
    length_numbers low (int_gap low (high +ℤ pos 1)) ∙ same

rises_rest : (xs : List ℤ) → Rises xs → members.Rises xs
unfolding Rises
rises_rest [] rises = tt
rises_rest (x ∷ xs) rises =
    (recursion_from_All (λ y. x <ℤ y) xs (λ k d h. rises zero (suc k) d (omega arith) (omega (arith, h))), rises_rest xs (λ i j d less h. rises (suc i) (suc j) d (omega (arith, less)) (omega (arith, h))))

-- the taken numbers of low..high are as many as those of the list that rises
taken_within : (given rising : List ℤ) (low high : ℤ) → IsRising given rising → length (filter (is_taken given) (range low high)) ≡ how_many_within rising low high
unfolding how_many_within
taken_within given rising low high r =
    same_length (filter (is_taken given) (range low high)) (filter (λ z. int_le low z && int_le z high) rising)
    (rises_apart _ (rises_filter (is_taken given) (range low high) (rises_range low high)))
    (rises_apart _ (rises_filter (λ z. int_le low z && int_le z high) rising (rises_rest rising r.rises)))
    (λ v h.
    let found = has_filter (is_taken given) (range low high) v h in
    let inside = has_range low high v found.0 in
    filter_has (λ z. int_le low z && int_le z high) rising v (has_from_contains rising v (r.has v (at_taken given v found.1))) (and_from (int_le low v) (int_le v high) (test_from_le low v inside.0) (test_from_le v high inside.1)))
    (λ v h.
    let found = has_filter (λ z. int_le low z && int_le z high) rising v h in
    let both = and_parts (int_le low v) (int_le v high) found.1 in
    filter_has (is_taken given) (range low high) v (range_has low high v (le_from_test low v both.0) (le_from_test v high both.1)) (taken_at given v (r.from v (contains_from_has rising v found.0))))

-- the free numbers and the taken ones make up low..high
pub free_is : (given rising : List ℤ) (low high : ℤ) (n : ℕ) → IsRising given rising → low ≤ℤ high → low +ℤ pos n ≡ high +ℤ pos 1 → how_many_within rising low high + free_count given low high ≡ n
free_is given rising low high n r h is =
    let both = length-filter_both (is_taken given) (is_free given) (λ z. refl) (range low high) in
    let taken = taken_within given rising low high r in
    let all = length_range low high n h is in
    omega (arith, both, taken, all)
