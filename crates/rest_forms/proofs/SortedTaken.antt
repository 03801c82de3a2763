-- Taken numbers and values of fixed members, in order.
use Rattle.std.proofs.Common.{◌≡◌, ℕ, ◌+◌, ◌-◌, ◌<◌, ◌≤◌, List, [], ◌∷◌, ◌++◌, length, get_or, refl, sym, ap, subst, ◌∙◌, arith, ℤ, Bool, true, false, inl, inr}
use Rattle.std.specs.Prelude.{filter, not, ◌||◌, ◌&&◌, ◌<ℤ◌, pos, if◌then◌else◌}
use Rattle.std.specs.List.{list_any, IsDistinct}
use Rattle.std.specs.List.Sorted.{IsPermutation, IsStrictlySortedBy}
use Rattle.std.specs.Ordering.{int_cmp, int_eq}
use Rattle.std.specs.declared.cmp.Ordering.TheVariants.{Less}
use Rattle.std.specs.Cmp.{int_ranks}
use Rattle.std.proofs.lemmas.Bool.{false_from_ne_true, cases_lt}
use Rattle.std.proofs.lemmas.Bool.Decides.{Decides-int_eq}
use Rattle.std.proofs.lemmas.Cmp.{int_cmp_total, int_eq_equiv, by_ranked}
use Rattle.std.proofs.lemmas.Int.{ints}
use Rattle.std.proofs.lemmas.List.{get_or_default}
use Rattle.std.proofs.lemmas.List.Kept.{IsStrictlySortedBy-filter}
use Rattle.std.proofs.lemmas.List.Sorted.{Contains-permutation, IsPermutation-sym}
use Rattle.std.proofs.lemmas.Map.Keys.{IsDistinct-IsPermutation, Less-from_sorted, sorted_from_all_adjacent}
use Rattle.std.proofs.lemmas.Map.Lookups.{exact_signed}
use Rattle.std.proofs.lemmas.Map.Made.{IsDistinct-from_AllPairs}
use Rattle.fzn_model.specs.declared.term.Term.{Term}
use Rattle.fzn_model.specs.declared.con.Con.TheVariants as con
use Rattle.fzn_model.specs.Bounds.{is_open}
use Rattle.rest_basic.specs.Forms.{open_terms}
use Rattle.rest_basic.specs.declared.reduced.Reduced.TheVariants as reduced
use Rattle.rest_basic.proofs.ListMembers.{filter_passed, filter_kept, filter_has}
use Rattle.rest_forms.specs.Forms.{fixed_values, term_has, open_has, rising_by, taken_left, has_twice, share_one, is_decided, all_different_form}
use Rattle.rest_forms.specs.Numbers.{RiseUpTo, some_has}
use Rattle.rest_forms.proofs.DistinctNumbers.{AreApart, distinct_parts, distinct_twice, share_some}
use Rattle.rest_forms.proofs.RisingLists.{numbers_have, numbers_sorted, same_members}
use Rattle.rest_forms.proofs.TakenLeft.{form_apart}

-- ---- numbers that rise
pub rise_none : (zs : List ℤ) (n : ℕ) → n ≤ 1 → RiseUpTo n zs
rise_none zs n few = record { each = λ k d h. absurd (omega (arith, few, h)) }

pub rise_more : (zs : List ℤ) (n : ℕ) (d e : ℤ) → RiseUpTo n zs → 1 ≤ n → n < length zs → get_or zs (n - 1) d <ℤ get_or zs n e → RiseUpTo (n + 1) zs
rise_more zs n d e so_far some inside less = record {
  each = λ k f h. elim (cases_lt (k + 1) n) [
    | inl before ↦ so_far.each k f before
    | inr last ↦
        let here : k + 1 ≡ n = omega (arith, last, h) in
        let there : n - 1 ≡ k = omega (arith, here) in
        let first : get_or zs k f ≡ get_or zs (n - 1) d = get_or_default zs k f d (omega (arith, here, inside)) ∙ ap (λ (i : ℕ). get_or zs i d) (sym there) in
        let second : get_or zs (k + 1) f ≡ get_or zs n e = get_or_default zs (k + 1) f e (omega (arith, here, inside)) ∙ ap (λ (i : ℕ). get_or zs i e) here in
        omega (arith, ints, first, second, less)
  ];
}

less_is : (a b : ℤ) → a <ℤ b → int_cmp a b ≡ Less
less_is a b less = by_ranked _ _ _ (int_cmp a b) (int_ranks a b) (λ is below. is) (λ is same. absurd (omega (arith, ints, less, same))) (λ is more. absurd (omega (arith, ints, less, more)))

pub rise_all : (zs : List ℤ) (n : ℕ) → RiseUpTo n zs → length zs ≤ n → IsStrictlySortedBy int_cmp zs
rise_all zs n rise all = sorted_from_all_adjacent int_cmp_total zs (pos 0) (λ k h. less_is (get_or zs k (pos 0)) (get_or zs (k + 1) (pos 0)) (rise.each k (pos 0) (omega (arith, all, h))))

-- ---- numbers that all differ
less_from : (a b : ℤ) → int_cmp a b ≡ Less → a <ℤ b
less_from a b e = by_ranked _ _ _ (int_cmp a b) (int_ranks a b) (λ is less. less) (λ is same. absurd (cc)) (λ is more. absurd (cc))

distinct : (zs sorted : List ℤ) → IsPermutation zs sorted → IsStrictlySortedBy int_cmp sorted → IsDistinct int_eq zs
distinct zs sorted moved order = IsDistinct-IsPermutation int_eq int_eq_equiv.symm sorted zs (IsPermutation-sym zs sorted moved)
    (IsDistinct-from_AllPairs Decides-int_eq sorted (λ i j d lt h same. let less = less_from (get_or sorted i d) (get_or sorted j d) (Less-from_sorted int_cmp sorted i j d order lt h) in omega (arith, ints, less, same)))

-- ---- those that are left
among_open : (box : List (List ℤ)) (xs : List Term) (z : ℤ) → some_has box (filter (is_open box) xs) z ≡ open_has box xs z
unfolding open_has
among_open box [] z = refl
among_open box (x ∷ xs) z = by_test (is_open box x) refl (among_open box xs z)
  where
    by_test : (o : Bool) → is_open box x ≡ o → some_has box (filter (is_open box) xs) z ≡ list_any (λ t. is_open box t && term_has box z t) xs → some_has box (filter (is_open box) (x ∷ xs)) z ≡ list_any (λ t. is_open box t && term_has box z t) (x ∷ xs)
    by_test true e rest = rw e (ap (λ (b : Bool). term_has box z x || b) rest)
    by_test false e rest = rw e rest

left_is : (box : List (List ℤ)) (xs : List Term) (taken numbers : List ℤ) → IsPermutation (taken ++ fixed_values box xs) numbers → IsStrictlySortedBy int_cmp numbers → filter (some_has box (open_terms box xs)) numbers ≡ taken_left box xs taken
unfolding taken_left open_terms
left_is box xs taken numbers moved order =
    let all = taken ++ fixed_values box xs in
    let has = some_has box (filter (is_open box) xs) in
    same_members int_cmp int_cmp_total exact_signed (filter has numbers) (rising_by int_cmp (filter (open_has box xs) all)) (IsStrictlySortedBy-filter int_cmp has numbers order) (numbers_sorted (filter (open_has box xs) all)) (λ w.
    let both = numbers_have (filter (open_has box xs) all) w in (
      (λ h. both.1 (filter_has (open_has box xs) all w (Contains-permutation numbers all w (IsPermutation-sym all numbers moved) (filter_kept has numbers w h)) (sym (among_open box xs w) ∙ filter_passed has numbers w h))),
      (λ h. let old = both.0 h in filter_has has numbers w (Contains-permutation all numbers w moved (filter_kept (open_has box xs) all w old)) (among_open box xs w ∙ filter_passed (open_has box xs) all w old)),
    ))

pub sorted_form : (box : List (List ℤ)) (xs : List Term) (taken fixed numbers : List ℤ) (members : List Term) (left : List ℤ) → fixed ≡ fixed_values box xs → IsPermutation (taken ++ fixed) numbers → IsStrictlySortedBy int_cmp numbers → members ≡ open_terms box xs → left ≡ filter (some_has box members) numbers
    → (if is_decided members left then reduced.Holds else reduced.Is (con.AllDiffExcept members left)) ≡ all_different_form box xs taken
sorted_form box xs taken fixed numbers members left is moved order are left_are =
    form_apart box xs taken fixed members left is differ are (left_are ∙ ap (λ (ts : List Term). filter (some_has box ts) numbers) are ∙ left_is box xs taken numbers (subst (λ (zs : List ℤ). IsPermutation (taken ++ zs) numbers) is moved) order)
  where
    parts : IsDistinct int_eq taken × IsDistinct int_eq fixed × AreApart taken fixed
    parts = distinct_parts taken fixed (distinct (taken ++ fixed) numbers moved order)

    shares : share_one fixed taken ≡ true → ⊥
    shares e = let (z, one, other) = share_some fixed taken e in parts.2.apart z other one

    differ : true ≡ not (has_twice fixed || share_one fixed taken)
    differ = rw (distinct_twice fixed parts.1, false_from_ne_true (share_one fixed taken) shares) refl
