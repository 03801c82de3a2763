-- Values that differ in pairs, found out term by term.
use Rattle.std.proofs.Common.{◌≡◌, ℕ, ◌+◌, ◌<◌, List, length, get_or, take, ap, arith, ◌∙◌, sym, ℤ, below_more, length-take, subst}
use Rattle.std.proofs.lemmas.List.{get_or-take, get_or_default}
use Rattle.fzn_model.specs.Meaning.{val, HasValue, AreDistinct}
use Rattle.fzn_model.specs.Limits.{TermIn, TermsIn}
use Rattle.fzn_model.specs.declared.term.Term.{Term}

-- the values of the first i terms differ in pairs
abbrev pub DistinctBelow : List Term → ℕ → List ℤ → Type 0
DistinctBelow ts i θ = (b : ℕ) → b < i → (a : ℕ) (d : Term) → a < b → val (get_or ts a d) θ ≡ val (get_or ts b d) θ → ⊥

-- a value that an earlier term has is no longer distinct
pub distinct_fails : (ts : List Term) (i : ℕ) (d : Term) (θ : List ℤ) → i < length ts → HasValue (take i ts) (val (get_or ts i d) θ) θ → AreDistinct ts θ → ⊥
unfolding HasValue AreDistinct
distinct_fails ts i d θ h (k, x, below, is, same) f =
    let near : k < i = omega (arith, below, length-take i ts) in
    f k i x near h (ap (λ (t : Term). val t θ) (sym (get_or-take i ts k x near) ∙ is) ∙ same ∙ ap (λ (t : Term). val t θ) (get_or_default ts i d x h))

-- a value that no earlier term has is one more distinct one
pub distinct_more : (ts : List Term) (i : ℕ) (d : Term) (θ : List ℤ) → i < length ts → (HasValue (take i ts) (val (get_or ts i d) θ) θ → ⊥) → DistinctBelow ts i θ → DistinctBelow ts (i + 1) θ
unfolding HasValue
distinct_more ts i d θ h absent f = below_more _ _ f (λ a e p same.
    absent (
      a,
      get_or ts a e,
      omega (arith, p, h, length-take i ts),
      get_or-take i ts a (get_or ts a e) p ∙ get_or_default ts a (get_or ts a e) e (omega arith),
      same ∙ ap (λ (t : Term). val t θ) (get_or_default ts i e d h),
    ))

-- the terms of a front are terms
pub terms_front : (n : ℕ) (ts : List Term) (i : ℕ) → TermsIn n ts → TermsIn n (take i ts)
terms_front n ts i k = record { count = omega (arith, length-take i ts, k.count); terms = λ j d p. let near : j < i = omega (arith, p, length-take i ts) in subst (TermIn n) (sym (get_or-take i ts j d near)) (k.terms j d (omega (arith, p, length-take i ts))) }
