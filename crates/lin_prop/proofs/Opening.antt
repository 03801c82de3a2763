-- The open terms of a sum.
use Rattle.std.proofs.Common.{◌≡◌, ℕ, ◌+◌, ◌<◌, ◌≤◌, inl, inr, List, length, get_or, ℤ, arith, subst}
use Rattle.std.proofs.lemmas.Bool.{cases_lt}
use Rattle.std.proofs.lemmas.List.{get_or_default}
use Rattle.fzn_model.specs.declared.term.Term.{Term}
use Rattle.fzn_model.specs.Bounds.{IsFixed}
use Rattle.dom_store.specs.Strength.{SumIsFixed, OthersFixed}
use Rattle.lin_prop.specs.Different.{IsOpenAt, IsOneOpen, AreTwoOpen, FixedBetween}

pub between_none : (box : List (List ℤ)) (ts : List (ℤ × Term)) (from : ℕ) → FixedBetween box ts from from
unfolding FixedBetween
between_none box ts from j d h k = absurd (omega arith)

pub between_more : (box : List (List ℤ)) (ts : List (ℤ × Term)) (from i : ℕ) (e : ℤ × Term) → i < length ts → FixedBetween box ts from i → IsFixed box (get_or ts i e).1 → FixedBetween box ts from (i + 1)
unfolding FixedBetween
between_more box ts from i e inside before here j d h k =
    elim (cases_lt j i) [
      | inl less ↦ before j d h less
      | inr most ↦ let same : i ≡ j = omega arith in subst (λ n. IsFixed box (get_or ts n d).1) same (subst (λ (p : ℤ × Term). IsFixed box p.1) (get_or_default ts i e d inside) here)
    ]

pub open_here : (box : List (List ℤ)) (ts : List (ℤ × Term)) (i : ℕ) (e : ℤ × Term) → (IsFixed box (get_or ts i e).1 → ⊥) → IsOpenAt box ts i
unfolding IsOpenAt
open_here box ts i e open_ d h fixed = open_ (subst (λ (p : ℤ × Term). IsFixed box p.1) (get_or_default ts i d e h) fixed)

pub none_open : (box : List (List ℤ)) (ts : List (ℤ × Term)) (to : ℕ) → length ts ≤ to → FixedBetween box ts 0 to → SumIsFixed box ts
unfolding FixedBetween SumIsFixed
none_open box ts to h fixed k d i = fixed k d (omega arith) (omega (arith, h, i))

pub one_open : (box : List (List ℤ)) (ts : List (ℤ × Term)) (i to : ℕ) → i < length ts → length ts ≤ to → IsOpenAt box ts i → FixedBetween box ts 0 i → FixedBetween box ts (i + 1) to → IsOneOpen box ts i
unfolding FixedBetween OthersFixed
one_open box ts i to inside far open_ before after = (
  inside,
  open_,
  λ j d h apart. elim (cases_lt j i) [
    | inl less ↦ before j d (omega arith) less
    | inr most ↦ elim (cases_lt i j) [
      | inl more ↦ after j d (omega arith) (omega (arith, h, far))
      | inr least ↦ absurd (apart (omega arith))
    ]
  ],
)

pub two_open : (box : List (List ℤ)) (ts : List (ℤ × Term)) (i j : ℕ) → i < j → j < length ts → IsOpenAt box ts i → IsOpenAt box ts j → AreTwoOpen box ts
two_open box ts i j less inside first second = (i, j, less, inside, first, second)
