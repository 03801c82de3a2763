-- Numbers that differ: where each of them is in another list, that list has as many members or more.
use Rattle.std.proofs.Common.{◌≡◌, zero, suc, false, refl, ◌∙◌, ◌≤◌, List, [], ◌∷◌, length, subst, sym, arith, ℤ}
use Rattle.std.specs.Prelude.{Contains}
use Rattle.std.specs.Ordering.{int_eq}
use Rattle.std.specs.List.{IsDistinct, AllByRecursion}
use Rattle.std.proofs.lemmas.Bool.{false≢true, false_from_ne_true}
use Rattle.std.proofs.lemmas.Bool.Decides.{Decides-int_eq}
use Rattle.std.proofs.lemmas.Cmp.{int_eq_equiv}
use Rattle.std.proofs.lemmas.List.Elements.{All-contains, All-contains_itself, All-weaker, All-from_recursion, recursion_from_All}
use Rattle.std.proofs.lemmas.Map.Keys.{IsDistinct-cons, IsDistinct-head}
use Rattle.std.proofs.lemmas.Map.Made.{is_member-Decides, length-le_from_is_member}

-- a number that isn't among some is none of them
pub apart_from : (z : ℤ) (zs : List ℤ) → (Contains zs z → ⊥) → AllByRecursion (λ y. int_eq z y ≡ false) zs
apart_from z zs new =
    let differs : (y : ℤ) → Contains zs y → int_eq z y ≡ false = λ y has. false_from_ne_true (int_eq z y) (λ e. new (subst (λ (w : ℤ). Contains zs w) (sym ((Decides-int_eq z y).0 e)) has)) in
    recursion_from_All (λ y. int_eq z y ≡ false) zs (All-weaker (Contains zs) (λ y. int_eq z y ≡ false) differs zs (All-contains_itself zs))

pub from_apart : (z : ℤ) (zs : List ℤ) → AllByRecursion (λ y. int_eq z y ≡ false) zs → Contains zs z → ⊥
from_apart z zs apart has = false≢true (sym (All-contains (λ y. int_eq z y ≡ false) zs z (All-from_recursion (λ y. int_eq z y ≡ false) zs apart) has) ∙ (Decides-int_eq z z).1 refl)

-- ---- a list that has no number twice, from its first member
pub distinct_none : IsDistinct int_eq []
unfolding IsDistinct
distinct_none = tt

pub distinct_more : (z : ℤ) (zs : List ℤ) → (Contains zs z → ⊥) → IsDistinct int_eq zs → IsDistinct int_eq (z ∷ zs)
distinct_more z zs new distinct = IsDistinct-cons int_eq z zs (apart_from z zs new) distinct

pub distinct_first : (z : ℤ) (zs : List ℤ) → IsDistinct int_eq (z ∷ zs) → Contains zs z → ⊥
distinct_first z zs distinct = from_apart z zs (IsDistinct-head int_eq z zs distinct)

-- ---- the pigeonhole principle
pub pigeons : (xs ys : List ℤ) → IsDistinct int_eq xs → ((z : ℤ) → Contains xs z → Contains ys z) → length xs ≤ length ys
pigeons xs ys distinct within =
    length-le_from_is_member int_eq_equiv xs ys distinct (λ z e. (is_member-Decides Decides-int_eq ys z).1 (within z ((is_member-Decides Decides-int_eq xs z).0 e)))

-- and where there are as many, each member of the other list is one of them
pub pigeons_fill : (xs ys : List ℤ) (z : ℤ) → IsDistinct int_eq xs → ((w : ℤ) → Contains xs w → Contains ys w) → length ys ≤ length xs → Contains ys z → (Contains xs z → ⊥) → ⊥
pigeons_fill xs ys z distinct within many has new =
    let more = pigeons (z ∷ xs) ys (distinct_more z xs new distinct) within_more in
    absurd (omega (arith, more, many))
  where
    within_more : (w : ℤ) → Contains (z ∷ xs) w → Contains ys w
    within_more w (zero, h, e) = subst (λ (y : ℤ). Contains ys y) e has
    within_more w (suc k, h, e) = within w (k, omega (arith, h), e)
