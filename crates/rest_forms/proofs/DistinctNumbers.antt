-- Numbers that differ, and the tests whether a list has one twice and whether two lists share one.
use Rattle.std.proofs.Common.{◌≡◌, List, [], ◌∷◌, ◌++◌, refl, sym, subst, ◌∙◌, ℤ, true, false, inl, inr}
use Rattle.std.specs.Prelude.{Contains}
use Rattle.std.specs.Ordering.{int_eq}
use Rattle.std.specs.List.{list_any, IsDistinct}
use Rattle.std.proofs.lemmas.Bool.{false≢true, false_from_ne_true, or_parts}
use Rattle.std.proofs.lemmas.List.Elements.{Contains-append_cases, Contains-append_left, Contains-append_right}
use Rattle.std.proofs.lemmas.Map.Keys.{IsDistinct-tail}
use Rattle.fzn_model.proofs.Pigeons.{distinct_none, distinct_more, distinct_first}
use Rattle.rest_basic.proofs.ListMembers.{has_first, has_later, has_cases, has_no}
use Rattle.rest_forms.specs.Forms.{has_twice, share_one}
use Rattle.rest_forms.proofs.ValueTests.{among_test, test_among, or_either}

-- ---- whether a number stands twice
pub twice_distinct : (zs : List ℤ) → has_twice zs ≡ false → IsDistinct int_eq zs
twice_distinct [] e = distinct_none
twice_distinct (z ∷ zs) e =
    let none = or_parts (list_any (int_eq z) zs) (has_twice zs) e in
    distinct_more z zs (λ has. false≢true (sym none.0 ∙ among_test z zs has)) (twice_distinct zs none.1)

pub distinct_twice : (zs : List ℤ) → IsDistinct int_eq zs → has_twice zs ≡ false
distinct_twice [] distinct = refl
distinct_twice (z ∷ zs) distinct =
    let none = false_from_ne_true (list_any (int_eq z) zs) (λ e. distinct_first z zs distinct (test_among z zs e)) in
    rw (none, distinct_twice zs (IsDistinct-tail int_eq z zs distinct)) refl

-- ---- two lists one after the other: all differ where those of each do, and they share none
pub record AreApart (xs ys : List ℤ) : Type 0 where
  pub apart : (z : ℤ) → Contains xs z → Contains ys z → ⊥

pub distinct_both : (xs ys : List ℤ) → IsDistinct int_eq xs → IsDistinct int_eq ys → AreApart xs ys → IsDistinct int_eq (xs ++ ys)
distinct_both [] ys dx dy none = dy
distinct_both (x ∷ xs) ys dx dy none =
    distinct_more x (xs ++ ys)
    (λ has. elim (Contains-append_cases xs ys x has) [ inl a ↦ distinct_first x xs dx a | inr b ↦ none.apart x (has_first x xs x refl) b ])
    (distinct_both xs ys (IsDistinct-tail int_eq x xs dx) dy (record { apart = λ z a b. none.apart z (has_later x xs z a) b }))

pub distinct_parts : (xs ys : List ℤ) → IsDistinct int_eq (xs ++ ys) → IsDistinct int_eq xs × IsDistinct int_eq ys × AreApart xs ys
distinct_parts [] ys d = (distinct_none, d, record { apart = λ z a b. has_no z a })
distinct_parts (x ∷ xs) ys d =
    let new = distinct_first x (xs ++ ys) d in
    let rest = distinct_parts xs ys (IsDistinct-tail int_eq x (xs ++ ys) d) in (
      distinct_more x xs (λ a. new (Contains-append_left xs ys x a)) rest.0,
      rest.1,
      record {
        apart = λ z a b. elim (has_cases x xs z a) [
          | inl is ↦ new (Contains-append_right xs ys x (subst (λ (w : ℤ). Contains ys w) (sym is) b))
          | inr later ↦ rest.2.apart z later b
        ];
      },
    )

-- ---- whether two lists have a number in common
pub share_some : (zs ys : List ℤ) → share_one zs ys ≡ true → (z : ℤ) × Contains zs z × Contains ys z
share_some [] ys e = absurd (false≢true e)
share_some (z ∷ zs) ys e = elim ((or_either (list_any (int_eq z) ys) (share_one zs ys)).0 e) [
  | inl here ↦ (z, has_first z zs z refl, test_among z ys here)
  | inr later ↦ let (w, one, other) = share_some zs ys later in (w, has_later z zs w one, other)
]

pub some_share : (zs ys : List ℤ) (z : ℤ) → Contains zs z → Contains ys z → share_one zs ys ≡ true
some_share [] ys z one other = absurd (has_no z one)
some_share (x ∷ xs) ys z one other = (or_either (list_any (int_eq x) ys) (share_one xs ys)).1 (elim (has_cases x xs z one) [
  | inl is ↦ inl (among_test x ys (subst (λ (w : ℤ). Contains ys w) (sym is) other))
  | inr later ↦ inr (some_share xs ys z later other)
])
