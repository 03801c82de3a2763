-- Lists of numbers, one behind another.
use Rattle.std.proofs.Common.{◌≡◌, ℕ, zero, suc, ◌+◌, ◌-◌, ◌<◌, ◌≤◌, List, [], ◌∷◌, ◌++◌, length, get_or, take, drop, refl, sym, ap, subst, ◌∙◌, arith}
use Rattle.std.specs.List.{slice_range}
use Rattle.std.proofs.Math.Seq.{drop-append_seam, take-length}
use Rattle.std.proofs.lemmas.List.{length-append, length-drop, drop-append-le, take-append-le, take_more, take_all}
use Rattle.prop_engine.specs.Flat.{lists_of, AreStarts}

starts_most : (s : ℕ) (rest : List ℕ) (count : ℕ) → AreStarts (s ∷ rest) count → s ≤ count
unfolding AreStarts
starts_most s [] count is = omega (arith, is)
starts_most s (e ∷ rest) count is = let more = starts_most e rest count is.1 in omega (arith, is.0, more)

-- ---- one list
order_next : (starts : List ℕ) (count at : ℕ) → AreStarts starts count → suc at < length starts → (get_or starts at 0 ≤ get_or starts (suc at) 0) × (get_or starts (suc at) 0 ≤ count)
unfolding AreStarts
order_next [] count at is h = absurd is
order_next (s ∷ []) count at is h = absurd (omega (arith, h))
order_next (s ∷ e ∷ rest) count zero is h = (is.0, starts_most e rest count is.1)
order_next (s ∷ e ∷ rest) count (suc at) is h = order_next (e ∷ rest) count at is.1 (omega (arith, h))

list_next : (members starts : List ℕ) (at : ℕ) → suc at < length starts → get_or (lists_of members starts) at [] ≡ slice_range members (get_or starts at 0) (get_or starts (suc at) 0)
unfolding lists_of
list_next members [] at h = absurd (omega (arith, h))
list_next members (s ∷ []) at h = absurd (omega (arith, h))
list_next members (s ∷ e ∷ rest) zero h = refl
list_next members (s ∷ e ∷ rest) (suc at) h = list_next members (e ∷ rest) at (omega (arith, h))

next : (at : ℕ) → suc at ≡ at + 1
next at = omega arith

pub order_at : (starts : List ℕ) (count at : ℕ) → AreStarts starts count → at + 1 < length starts → (get_or starts at 0 ≤ get_or starts (at + 1) 0) × (get_or starts (at + 1) 0 ≤ count)
order_at starts count at is h = subst (λ n. (get_or starts at 0 ≤ get_or starts n 0) × (get_or starts n 0 ≤ count)) (next at) (order_next starts count at is (omega (arith, h)))

pub list_in : (members starts : List ℕ) (at : ℕ) → at + 1 < length starts → get_or (lists_of members starts) at [] ≡ slice_range members (get_or starts at 0) (get_or starts (at + 1) 0)
list_in members starts at h = subst (λ n. get_or (lists_of members starts) at [] ≡ slice_range members (get_or starts at 0) (get_or starts n 0)) (next at) (list_next members starts at (omega (arith, h)))

pub list_past : (members starts : List ℕ) (at : ℕ) → length starts ≤ at + 1 → get_or (lists_of members starts) at [] ≡ []
unfolding lists_of
list_past members [] at h = refl
list_past members (s ∷ []) at h = refl
list_past members (s ∷ e ∷ rest) zero h = absurd (omega (arith, h))
list_past members (s ∷ e ∷ rest) (suc at) h = list_past members (e ∷ rest) at (omega (arith, h))

-- ---- one list more
slice_front : (xs ys : List ℕ) (a b : ℕ) → a ≤ b → b ≤ length xs → slice_range (xs ++ ys) a b ≡ slice_range xs a b
slice_front xs ys a b order h =
    let long : b - a ≤ length (drop a xs) = omega (arith, order, h, length-drop a xs) in
    ap (λ (zs : List ℕ). take (b - a) zs) (drop-append-le a xs ys (omega (arith, order, h))) ∙ take-append-le (b - a) (drop a xs) ys long

slice_last : (xs ys : List ℕ) (n : ℕ) → n ≡ length xs + length ys → slice_range (xs ++ ys) (length xs) n ≡ ys
slice_last xs ys n is =
    let count : n - length xs ≡ length ys = omega (arith, is) in
    ap (λ (zs : List ℕ). take (n - length xs) zs) (drop-append_seam xs ys) ∙ ap (λ m. take m ys) count ∙ take-length ys

module _ (members l : List ℕ) (n : ℕ) (is : n ≡ length members + length l) where
  lists_more : (starts : List ℕ) → AreStarts starts (length members) → lists_of (members ++ l) (starts ++ n ∷ []) ≡ lists_of members starts ++ l ∷ []
  unfolding lists_of AreStarts
  lists_more [] are = absurd are
  lists_more (s ∷ []) are = ap (λ (ys : List ℕ). ys ∷ []) (ap (λ m. slice_range (members ++ l) m n) are ∙ slice_last members l n is)
  lists_more (s ∷ e ∷ rest) are =
      ap (λ (ys : List ℕ). ys ∷ lists_of (members ++ l) (e ∷ rest ++ n ∷ [])) (slice_front members l s e are.0 (starts_most e rest (length members) are.1))
      ∙ ap (λ (ls : List (List ℕ)). slice_range members s e ∷ ls) (lists_more (e ∷ rest) are.1)

  starts_more : (starts : List ℕ) → AreStarts starts (length members) → AreStarts (starts ++ n ∷ []) n
  unfolding AreStarts
  starts_more [] are = absurd are
  starts_more (s ∷ []) are = (omega (arith, are, is), refl)
  starts_more (s ∷ e ∷ rest) are = (are.0, starts_more (e ∷ rest) are.1)

-- the first lists, one behind another, and one more
pub flat_more : (lists : List (List ℕ)) (i : ℕ) (d : List ℕ) (members starts more now : List ℕ) → i < length lists → AreStarts starts (length members) → lists_of members starts ≡ take i lists
    → more ≡ members ++ get_or lists i d → now ≡ starts ++ length more ∷ [] → AreStarts now (length more) × (lists_of more now ≡ take (i + 1) lists)
flat_more lists i d members starts more now h are made is longer =
    let l = get_or lists i d in
    let count : length more ≡ length members + length l = ap length is ∙ length-append members l in (
      subst (λ (ss : List ℕ). AreStarts ss (length more)) (sym longer) (starts_more members l (length more) count starts are),
      ap (λ (ss : List ℕ). lists_of more ss) longer ∙ ap (λ (ms : List ℕ). lists_of ms (starts ++ length more ∷ [])) is ∙ lists_more members l (length more) count starts are ∙ ap (λ (ls : List (List ℕ)). ls ++ l ∷ []) made ∙ sym (take_more lists i d h),
    )

pub flat_none : (lists : List (List ℕ)) (members starts : List ℕ) → members ≡ [] → starts ≡ 0 ∷ [] → AreStarts starts (length members) × (lists_of members starts ≡ take 0 lists)
unfolding lists_of AreStarts
flat_none lists members starts none first = (
  subst (λ (ss : List ℕ). AreStarts ss (length members)) (sym first) (sym (ap length none)),
  ap (λ (ss : List ℕ). lists_of members ss) first,
)

pub flat_all : (lists : List (List ℕ)) (i : ℕ) (members starts : List ℕ) → length lists ≤ i → lists_of members starts ≡ take i lists → lists_of members starts ≡ lists
flat_all lists i members starts far made = made ∙ take_all i lists far
