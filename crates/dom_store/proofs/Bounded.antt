-- What one walk over a sum tells.
use Rattle.std.proofs.Common.{◌≡◌, ℕ, ◌+◌, ◌<◌, ◌≤◌, List, length, get_or, ℤ, ◌+ℤ◌, ◌-ℤ◌, ◌≤ℤ◌, subst, arith, inl, inr}
use Rattle.std.specs.Int.{int_max}
use Rattle.std.proofs.lemmas.Int.{ints, clamps}
use Rattle.std.proofs.lemmas.Bool.{cases_lt}
use Rattle.std.proofs.lemmas.List.{get_or_default}
use Rattle.fzn_model.specs.declared.term.Term.{Term}
use Rattle.fzn_model.specs.Bounds.{scaled_low, scaled_high}
use Rattle.dom_store.specs.Steps.{EachTo}
use Rattle.dom_store.specs.Sums.{RisesWithin}

-- no term so far rises by more
pub rises_none : (box : List (List ℤ)) (ts : List (ℤ × Term)) (rise : ℤ) → EachTo (RisesWithin rise) ts 0 box
unfolding EachTo
rises_none box ts rise k d h = absurd (omega (arith, h))

pub rises_more : (box : List (List ℤ)) (ts : List (ℤ × Term)) (i : ℕ) (e : ℤ × Term) (rise one more : ℤ) → i < length ts → EachTo (RisesWithin rise) ts i box → one ≡ scaled_high box (get_or ts i e) -ℤ scaled_low box (get_or ts i e) → more ≡ int_max rise one → EachTo (RisesWithin more) ts (i + 1) box
unfolding EachTo RisesWithin
rises_more box ts i e rise one more inside before a is k d h = elim (cases_lt k i) [
  | inl less ↦ let old = before k d less in omega (arith, ints, clamps, is, old)
  | inr far ↦
      let here : i ≡ k = omega (arith, h, far) in
      let same : get_or ts i e ≡ get_or ts i d = get_or_default ts i e d inside in
      let within : scaled_high box (get_or ts i e) ≤ℤ (more +ℤ scaled_low box (get_or ts i e)) = omega (arith, ints, clamps, a, is) in
      subst (λ j. scaled_high box (get_or ts j d) ≤ℤ (more +ℤ scaled_low box (get_or ts j d))) here (subst (λ (t : ℤ × Term). scaled_high box t ≤ℤ (more +ℤ scaled_low box t)) same within)
]

pub rises_all : (box : List (List ℤ)) (ts : List (ℤ × Term)) (i : ℕ) (rise : ℤ) → length ts ≤ i → EachTo (RisesWithin rise) ts i box → EachTo (RisesWithin rise) ts (length ts) box
unfolding EachTo
rises_all box ts i rise far before k d h = before k d (omega (arith, far, h))
