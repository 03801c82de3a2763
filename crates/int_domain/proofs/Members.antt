-- What a list of whole numbers has, and that rising lists with the same members are equal.
use Rattle.std.proofs.Common.{◌≡◌, ℕ, suc, zero, ◌<◌, ◌⊎◌, inl, inr, List, [], ◌∷◌, length, get_or, refl, sym, ap, subst, ◌∙◌, arith, Bool, true, false, cond}
use Rattle.std.specs.Prelude.{ℤ, pos, negsuc, ◌+ℤ◌, ◌≤ℤ◌, ◌<ℤ◌, filter, AllPairs, Contains}
use Rattle.std.specs.List.{AllByRecursion}
use Rattle.std.specs.Int.{int_gap}
use Rattle.std.proofs.lemmas.Int.{ints, by_lt_z}
use Rattle.std.proofs.lemmas.Bool.{false≢true}
use Rattle.std.proofs.lemmas.List.Elements.{All-from_recursion}
use Rattle.std.proofs.lemmas.List.Kept.{AllPairs-cons}
use Rattle.int_domain.specs.Values.{numbers_from, range, last_after, low_of, high_of}

-- v is one of the numbers
abbrev pub Has : ℤ → List ℤ → Type 0
Has v [] = ⊥
Has v (x ∷ xs) = (v ≡ x) ⊎ Has v xs

-- each is below those after it
abbrev pub Rises : List ℤ → Type 0
Rises [] = Unit {0}
Rises (x ∷ xs) = AllByRecursion (λ y. x <ℤ y) xs × Rises xs

pub all_has : (P : ℤ → Type 0) (xs : List ℤ) (v : ℤ) → AllByRecursion P xs → Has v xs → P v
all_has P [] v all h = absurd h
all_has P (x ∷ xs) v all h = elim h [ inl e ↦ subst P (sym e) all.0 | inr k ↦ all_has P xs v all.1 k ]

pub all_of_has : (P : ℤ → Type 0) (xs : List ℤ) → ((v : ℤ) → Has v xs → P v) → AllByRecursion P xs
all_of_has P [] each = tt
all_of_has P (x ∷ xs) each = (each x (inl refl), all_of_has P xs (λ v h. each v (inr h)))

-- the first two of a list with the same members
same_first : (x y : ℤ) (xs ys : List ℤ) → AllByRecursion (λ v. x <ℤ v) xs → AllByRecursion (λ v. y <ℤ v) ys → Has x (y ∷ ys) → Has y (x ∷ xs) → x ≡ y
same_first x y xs ys above_x above_y in_ys in_xs =
    elim in_ys [
      | inl e ↦ e
      | inr k ↦ elim in_xs [
        | inl e ↦ sym e
        | inr l ↦ let p : y <ℤ x = all_has (λ v. y <ℤ v) ys x above_y k in let q : x <ℤ y = all_has (λ v. x <ℤ v) xs y above_x l in absurd (omega (arith, ints))
      ]
    ]

-- a member of a tail is a member of the other tail
in_tail : (x : ℤ) (xs ys : List ℤ) (v : ℤ) → AllByRecursion (λ w. x <ℤ w) xs → Has v xs → Has v (x ∷ ys) → Has v ys
in_tail x xs ys v above h k =
    elim k [
      | inl e ↦ let p : x <ℤ v = all_has (λ w. x <ℤ w) xs v above h in absurd (omega (arith, ints))
      | inr l ↦ l
    ]

-- rising lists with the same members are equal
pub same_by_members : (xs ys : List ℤ) → Rises xs → Rises ys → ((v : ℤ) → Has v xs → Has v ys) → ((v : ℤ) → Has v ys → Has v xs) → xs ≡ ys
same_by_members [] [] p q there back = refl
same_by_members [] (y ∷ ys) p q there back = absurd (back y (inl refl))
same_by_members (x ∷ xs) [] p q there back = absurd (there x (inl refl))
same_by_members (x ∷ xs) (y ∷ ys) p q there back =
    let e : x ≡ y = same_first x y xs ys p.0 q.0 (there x (inl refl)) (back y (inl refl)) in
    let rest : xs ≡ ys = same_by_members xs ys p.1 q.1
    (λ v h. in_tail x xs ys v p.0 h (subst (λ z. Has v (z ∷ ys)) (sym e) (there v (inr h))))
    (λ v h. in_tail y ys xs v q.0 h (subst (λ z. Has v (z ∷ xs)) e (back v (inr h)))) in
    cc

-- a list without members is empty
pub empty_by_members : (xs : List ℤ) → ((v : ℤ) → Has v xs → ⊥) → xs ≡ []
empty_by_members [] none = refl
empty_by_members (x ∷ xs) none = absurd (none x (inl refl))

-- ---- filters
has_filter_by : (t : ℤ → Bool) (x : ℤ) (xs : List ℤ) (v : ℤ) (b : Bool) → (Has v (filter t xs) → Has v xs × (t v ≡ true)) → t x ≡ b → Has v (cond b (x ∷ filter t xs) (filter t xs)) → Has v (x ∷ xs) × (t v ≡ true)
has_filter_by t x xs v true later e h = elim h [ inl is ↦ (inl is, ap t is ∙ e) | inr k ↦ (inr (later k).0, (later k).1) ]
has_filter_by t x xs v false later e h = (inr (later h).0, (later h).1)

pub has_filter : (t : ℤ → Bool) (xs : List ℤ) (v : ℤ) → Has v (filter t xs) → Has v xs × (t v ≡ true)
has_filter t [] v h = absurd h
has_filter t (x ∷ xs) v h = has_filter_by t x xs v (t x) (has_filter t xs v) refl h

filter_has_by : (t : ℤ → Bool) (x : ℤ) (xs : List ℤ) (v : ℤ) (b : Bool) → (Has v xs → t v ≡ true → Has v (filter t xs)) → t x ≡ b → Has v (x ∷ xs) → t v ≡ true → Has v (cond b (x ∷ filter t xs) (filter t xs))
filter_has_by t x xs v true later is h e = elim h [ inl k ↦ inl k | inr k ↦ inr (later k e) ]
filter_has_by t x xs v false later is h e = elim h [ inl k ↦ absurd (false≢true (sym is ∙ ap t (sym k) ∙ e)) | inr k ↦ later k e ]

pub filter_has : (t : ℤ → Bool) (xs : List ℤ) (v : ℤ) → Has v xs → t v ≡ true → Has v (filter t xs)
filter_has t [] v h e = absurd h
filter_has t (x ∷ xs) v h e = filter_has_by t x xs v (t x) (filter_has t xs v) refl h e

pub rises_filter : (t : ℤ → Bool) (xs : List ℤ) → Rises xs → Rises (filter t xs)
rises_filter t [] r = tt
rises_filter t (x ∷ xs) r =
    let kept : Rises (filter t xs) = rises_filter t xs r.1 in
    let above : AllByRecursion (λ y. x <ℤ y) (filter t xs) = all_of_has _ (filter t xs) (λ v h. all_has (λ y. x <ℤ y) xs v r.0 (has_filter t xs v h).0) in
    elim (t x) as (λ b. Rises (cond b (x ∷ filter t xs) (filter t xs))) [ true ↦ (above, kept) | false ↦ kept ]

-- ---- ranges
pub has_numbers : (low : ℤ) (n : ℕ) (v : ℤ) → Has v (numbers_from low n) → (low ≤ℤ v) × (v <ℤ (low +ℤ pos n))
unfolding numbers_from
has_numbers low zero v h = absurd h
has_numbers low (suc n) v h =
    elim h [
      | inl e ↦ (omega (arith, ints), omega (arith, ints))
      | inr k ↦ let r = has_numbers (low +ℤ pos 1) n v k in (omega (arith, ints), omega (arith, ints))
    ]

pub numbers_has : (low : ℤ) (n : ℕ) (v : ℤ) → low ≤ℤ v → v <ℤ (low +ℤ pos n) → Has v (numbers_from low n)
unfolding numbers_from
numbers_has low zero v p q = absurd (omega (arith, ints))
numbers_has low (suc n) v p q =
    by_lt_z low v
    (λ above. inr (numbers_has (low +ℤ pos 1) n v (omega (arith, ints)) (omega (arith, ints))))
    (λ not_above. inl (omega (arith, ints)))

pub rises_numbers : (low : ℤ) (n : ℕ) → Rises (numbers_from low n)
unfolding numbers_from
rises_numbers low zero = tt
rises_numbers low (suc n) =
    (all_of_has (λ y. low <ℤ y) (numbers_from (low +ℤ pos 1) n) (λ v h. let r = has_numbers (low +ℤ pos 1) n v h in omega (arith, ints)), rises_numbers (low +ℤ pos 1) n)

-- ---- the values between two bounds that pass a test
abbrev pub Inside : (ℤ → Bool) → ℤ → ℤ → ℤ → Type 0
Inside test low high v = (low ≤ℤ v) × (v ≤ℤ high) × (test v ≡ true)

pub gap_is : (low high : ℤ) → low ≤ℤ high → low +ℤ pos (int_gap low high) ≡ high
gap_is (pos a) (pos b) h = omega (arith, ints)
gap_is (pos a) (negsuc b) h = absurd (omega (arith, ints))
gap_is (negsuc a) (pos b) h = omega (arith, ints)
gap_is (negsuc a) (negsuc b) h = omega (arith, ints)

gap_none : (low high : ℤ) → high ≤ℤ low → int_gap low high ≡ 0
gap_none (pos a) (pos b) h = omega (arith, ints)
gap_none (pos a) (negsuc b) h = refl
gap_none (negsuc a) (pos b) h = absurd (omega (arith, ints))
gap_none (negsuc a) (negsuc b) h = omega (arith, ints)

pub has_range : (low high v : ℤ) → Has v (range low high) → (low ≤ℤ v) × (v ≤ℤ high)
unfolding range
has_range low high v h =
    let r = has_numbers low _ v h in
    by_lt_z low (high +ℤ pos 1)
    (λ below. let is : low +ℤ pos (int_gap low (high +ℤ pos 1)) ≡ high +ℤ pos 1 = gap_is low (high +ℤ pos 1) (omega (arith, ints)) in (r.0, omega (arith, ints)))
    (λ above. let none : int_gap low (high +ℤ pos 1) ≡ 0 = gap_none low (high +ℤ pos 1) above in absurd (omega (arith, ints)))

pub range_has : (low high v : ℤ) → low ≤ℤ v → v ≤ℤ high → Has v (range low high)
unfolding range
range_has low high v p q =
    let is : low +ℤ pos (int_gap low (high +ℤ pos 1)) ≡ high +ℤ pos 1 = gap_is low (high +ℤ pos 1) (omega (arith, ints)) in
    numbers_has low _ v p (omega (arith, ints))

pub rises_range : (low high : ℤ) → Rises (range low high)
unfolding range
rises_range low high = rises_numbers low _

abbrev pub between : (ℤ → Bool) → ℤ → ℤ → List ℤ
between test low high = filter test (range low high)

pub rises_between : (t : ℤ → Bool) (low high : ℤ) → Rises (between t low high)
rises_between t low high = rises_filter t (range low high) (rises_range low high)

pub has_between : (t : ℤ → Bool) (low high v : ℤ) → Has v (between t low high) → Inside t low high v
has_between t low high v h = let r = has_filter t (range low high) v h in let s = has_range low high v r.0 in (s.0, s.1, r.1)

pub between_has : (t : ℤ → Bool) (low high v : ℤ) → Inside t low high v → Has v (between t low high)
between_has t low high v h = filter_has t (range low high) v (range_has low high v h.0 h.1) h.2

-- two rising lists, where the second has those of the first that pass
pub filter_is : (keep : ℤ → Bool) (xs ys : List ℤ) → Rises xs → Rises ys → ((v : ℤ) → Has v xs → keep v ≡ true → Has v ys) → ((v : ℤ) → Has v ys → Has v xs × (keep v ≡ true)) → filter keep xs ≡ ys
filter_is keep xs ys r s there back =
    same_by_members (filter keep xs) ys (rises_filter keep xs r) s
    (λ v h. let k = has_filter keep xs v h in there v k.0 k.1)
    (λ v h. let k = back v h in filter_has keep xs v k.0 k.1)

pub low_is : (xs : List ℤ) (m : ℤ) → Rises xs → Has m xs → ((v : ℤ) → Has v xs → m ≤ℤ v) → low_of xs ≡ m
unfolding low_of
low_is [] m r h least = absurd h
low_is (x ∷ xs) m r h least =
    elim h [
      | inl e ↦ sym e
      | inr k ↦ let p : x <ℤ m = all_has (λ v. x <ℤ v) xs m r.0 k in let q : m ≤ℤ x = least x (inl refl) in absurd (omega (arith, ints))
    ]

last_is : (before : ℤ) (xs : List ℤ) (m : ℤ) → Rises xs → Has m xs → ((v : ℤ) → Has v xs → v ≤ℤ m) → last_after before xs ≡ m
last_is before [] m r h most = absurd h
last_is before (x ∷ []) m r h most = elim h [ inl e ↦ sym e | inr k ↦ absurd k ]
last_is before (x ∷ y ∷ ys) m r h most =
    let later : Has m (y ∷ ys) = elim h [
      | inl e ↦ let p : x <ℤ y = r.0.0 in let q : y ≤ℤ m = most y (inr (inl refl)) in absurd (omega (arith, ints))
      | inr k ↦ k
    ] in
    last_is x (y ∷ ys) m r.1 later (λ v k. most v (inr k))

pub high_is : (xs : List ℤ) (m : ℤ) → Rises xs → Has m xs → ((v : ℤ) → Has v xs → v ≤ℤ m) → high_of xs ≡ m
unfolding high_of
high_is xs m r h most = last_is (pos 0) xs m r h most

pub low_between : (t : ℤ → Bool) (low high : ℤ) → low ≤ℤ high → t low ≡ true → low_of (between t low high) ≡ low
low_between t low high p e =
    low_is (between t low high) low (rises_between t low high) (between_has t low high low (omega (arith, ints), p, e)) (λ v h. (has_between t low high v h).0)

pub high_between : (t : ℤ → Bool) (low high : ℤ) → low ≤ℤ high → t high ≡ true → high_of (between t low high) ≡ high
high_between t low high p e =
    high_is (between t low high) high (rises_between t low high) (between_has t low high high (p, omega (arith, ints), e)) (λ v h. (has_between t low high v h).1)

-- ---- between `Has` and the library's `Contains`
pub contains_from_has : (xs : List ℤ) (v : ℤ) → Has v xs → Contains xs v
contains_from_has [] v h = absurd h
contains_from_has (x ∷ xs) v h =
    elim h [
      | inl e ↦ (zero, omega arith, sym e)
      | inr k ↦ let r : Contains xs v = contains_from_has xs v k in (suc r.0, omega (arith, r.1), r.2)
    ]

-- an element of a list is one of its members
pub has_get : (xs : List ℤ) (k : ℕ) (d : ℤ) → k < length xs → Has (get_or xs k d) xs
has_get [] k d h = absurd (omega arith)
has_get (x ∷ xs) zero d h = inl refl
has_get (x ∷ xs) (suc k) d h = inr (has_get xs k d (omega arith))

pub has_from_contains : (xs : List ℤ) (v : ℤ) → Contains xs v → Has v xs
has_from_contains xs v h = subst (λ z. Has z xs) h.2 (has_get xs h.0 v h.1)

pub all_pairs : (xs : List ℤ) → Rises xs → AllPairs (λ x y. x <ℤ y) xs
all_pairs [] r = λ i j d lt within. absurd (omega arith)
all_pairs (x ∷ xs) r = AllPairs-cons (λ a b. a <ℤ b) x xs (All-from_recursion (λ y. x <ℤ y) xs r.0) (all_pairs xs r.1)
