-- The term of a list with the least or the greatest bound, place by place.
use Rattle.std.proofs.Common.{◌≡◌, ℕ, ◌+◌, ◌<◌, ◌⊎◌, List, length, refl, sym, subst, ap, ◌∙◌, arith, inl, inr}
use Rattle.std.specs.Prelude.{ℤ, slice_index_or, Contains}
use Rattle.std.proofs.lemmas.Bool.{cases_lt}
use Rattle.std.proofs.lemmas.List.{get_or_default}
use Rattle.fzn_model.specs.declared.term.Term.{Term}
use Rattle.fzn_model.specs.Limits.{TermIn}
use Rattle.dom_store.specs.declared.extreme.Extreme.{Extreme}
use Rattle.dom_store.specs.Extremes.{bound_of, Bounds}
use Rattle.arith_prop.specs.Extremes.{IsFurther, IsFurthest}
use Rattle.dom_store.proofs.Limiting.{bounds_same, bounds_trans}

-- ---- the further of two
pub first_further : (box : List (List ℤ)) (e bounds : Extreme) (x y : Term) → Bounds e (bound_of bounds x box) (bound_of bounds y box) → IsFurther box e bounds x y x
first_further box e bounds x y within = record { one = inl refl; first = bounds_same e (bound_of bounds x box); second = within }

pub second_further : (box : List (List ℤ)) (e bounds : Extreme) (x y : Term) → Bounds e (bound_of bounds y box) (bound_of bounds x box) → IsFurther box e bounds x y y
second_further box e bounds x y within = record { one = inr refl; first = within; second = bounds_same e (bound_of bounds y box) }

-- a property of both is one of either
either : (P : Term → Type 0) (x y t : Term) → (t ≡ x) ⊎ (t ≡ y) → P x → P y → P t
either P x y t (inl is) first second = subst P (sym is) first
either P x y t (inr is) first second = subst P (sym is) second

pub further_in : (box : List (List ℤ)) (e bounds : Extreme) (n : ℕ) (x y t : Term) → IsFurther box e bounds x y t → TermIn n x → TermIn n y → TermIn n t
further_in box e bounds n x y t further first second = either (TermIn n) x y t further.one first second

-- ---- the furthest of the first places
-- a property of the first n places and of the next
next_place : (P : Term → Type 0) (n : ℕ) (xs : List Term) (y : Term) → n < length xs → y ≡ slice_index_or xs n y → ((k : ℕ) (d : Term) → k < n → P (slice_index_or xs k d)) → P y → (k : ℕ) (d : Term) → k < n + 1 → P (slice_index_or xs k d)
next_place P n xs y inside is before here k d h = elim (cases_lt k n) [
  | inl less ↦ before k d less
  | inr more ↦
      let same : k ≡ n = omega arith in
      let there : slice_index_or xs n d ≡ y = get_or_default xs n d y inside ∙ sym is in
      subst P (sym (ap (λ i. slice_index_or xs i d) same ∙ there)) here
]

pub furthest_start : (box : List (List ℤ)) (e bounds : Extreme) (xs : List Term) (t : Term) → 0 < length xs → t ≡ slice_index_or xs 0 t → IsFurthest box e bounds 0 xs t
furthest_start box e bounds xs t some is = record { member = (0, some, sym is); most = λ k d h. absurd (omega arith) }

pub furthest_more : (box : List (List ℤ)) (e bounds : Extreme) (n : ℕ) (xs : List Term) (t y r : Term) → n < length xs → y ≡ slice_index_or xs n y → IsFurthest box e bounds n xs t → IsFurther box e bounds t y r → IsFurthest box e bounds (n + 1) xs r
furthest_more box e bounds n xs t y r inside is so_far further = record {
  member = either (Contains xs) t y r further.one so_far.member (n, inside, sym is);
  most = next_place (λ x. Bounds e (bound_of bounds r box) (bound_of bounds x box)) n xs y inside is
      (λ k d h. bounds_trans e (bound_of bounds r box) (bound_of bounds t box) (bound_of bounds (slice_index_or xs k d) box) further.first (so_far.most k d h)) further.second;
}
