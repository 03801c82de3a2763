-- What one walk over a list of literals shows.
use Rattle.std.proofs.Common.{◌≡◌, ℕ, ◌+◌, ◌<◌, ◌≤◌, ◌⊎◌, List, length, get_or, refl, sym, subst, ap, ◌∙◌, arith, inl, inr}
use Rattle.std.specs.Prelude.{ℤ, pos, Bool, true, false, Any, cond}
use Rattle.std.proofs.lemmas.Bool.{cases_lt, false≢true}
use Rattle.std.proofs.lemmas.List.{get_or_default}
use Rattle.fzn_model.specs.declared.term.Term.{Term}
use Rattle.fzn_model.specs.declared.term.Term.TheVariants.{Const}
use Rattle.fzn_model.specs.declared.base.Base.TheVariants as base
use Rattle.fzn_model.specs.Bounds.{IsAt}
use Rattle.dom_store.specs.Strength.{HasTrue, AllFalse}
use Rattle.reif_prop.specs.declared.verdict.Verdict.{Verdict}
use Rattle.reif_prop.specs.declared.verdict.Verdict.TheVariants as verdict
use Rattle.dom_store.specs.Bases.{clause_of}
use Rattle.reif_prop.specs.Judging.{IsJudged, ListIsJudged, NoneAt, AllAtBy}

module _ (box : List (List ℤ)) (ts : List Term) (v w : ℤ) where
  pub none_first : NoneAt box ts v 0
  unfolding NoneAt
  none_first k d h = absurd (omega (arith, h))

  pub all_first : AllAtBy box ts w 0 false
  unfolding AllAtBy
  all_first k d h = absurd (omega (arith, h))

  pub none_on : (n : ℕ) (e : Term) → n < length ts → NoneAt box ts v n → (IsAt box (get_or ts n e) v → ⊥) → NoneAt box ts v (n + 1)
  unfolding NoneAt
  none_on n e inside before here k d h at = elim (cases_lt k n) [
    | inl less ↦ before k d less at
    | inr far ↦
        let same : k ≡ n = omega (arith, h, far) in
        here (subst (λ t. IsAt box t v) (ap (λ j. get_or ts j d) same ∙ get_or_default ts n d e inside) at)
  ]

  all_on : (n : ℕ) (e : Term) → n < length ts → AllAtBy box ts w n false → IsAt box (get_or ts n e) w → AllAtBy box ts w (n + 1) false
  unfolding AllAtBy
  all_on n e inside before here k d h = elim (cases_lt k n) [
    | inl less ↦ before k d less
    | inr far ↦
        let same : n ≡ k = omega (arith, h, far) in
        subst (λ t. IsAt box t w) (get_or_default ts n e d inside ∙ ap (λ j. get_or ts j d) same) here
  ]

  open_on : (n : ℕ) (e : Term) → n < length ts → (IsAt box (get_or ts n e) w → ⊥) → AllAtBy box ts w (n + 1) true
  unfolding AllAtBy
  open_on n e inside here = (n, inside, λ d at. here (subst (λ t. IsAt box t w) (get_or_default ts n d e inside) at))

  open_stays : (n m : ℕ) → AllAtBy box ts w n true → AllAtBy box ts w m true
  unfolding AllAtBy
  open_stays n m before = before

  -- one more term
  pub by_more : (n : ℕ) (e : Term) (was is : Bool) → n < length ts → AllAtBy box ts w n was → (is ≡ true → (was ≡ true) ⊎ (IsAt box (get_or ts n e) w → ⊥)) → (is ≡ false → (was ≡ false) × IsAt box (get_or ts n e) w) → AllAtBy box ts w (n + 1) is
  by_more n e true true inside before up down = open_stays n (n + 1) before
  by_more n e false true inside before up down = elim (up refl) [
    | inl same ↦ absurd (false≢true same)
    | inr here ↦ open_on n e inside here
  ]
  by_more n e true false inside before up down = absurd (false≢true (sym (down refl).0))
  by_more n e false false inside before up down = all_on n e inside before (down refl).1

  -- ---- at the end
  pub some_at : (n : ℕ) (e : Term) → n < length ts → IsAt box (get_or ts n e) v → ListIsJudged box ts v w verdict.Shown
  unfolding ListIsJudged
  some_at n e inside at = (n, get_or ts n e, inside, get_or_default ts n (get_or ts n e) e inside, at)

  none_of : (n : ℕ) → length ts ≤ n → NoneAt box ts v n → Any (λ t. IsAt box t v) ts → ⊥
  unfolding NoneAt
  none_of n far none (k, t, h, is, at) = none k t (omega (arith, h, far)) (subst (λ u. IsAt box u v) (sym is) at)

  pub judged_by : (n : ℕ) (open_ : Bool) → length ts ≤ n → NoneAt box ts v n → AllAtBy box ts w n open_ → ListIsJudged box ts v w (cond open_ verdict.Unknown verdict.Refuted)
  unfolding AllAtBy ListIsJudged
  judged_by n true far none (k, h, here) = (none_of n far none, λ all. here (Const (pos 0)) (all k (Const (pos 0)) h))
  judged_by n false far none all = (none_of n far none, λ k d h. all k d (omega (arith, h, far)))

-- ---- the clause
module _ (box : List (List ℤ)) (ps ns : List Term) where
  pub first_shown : ListIsJudged box ps (pos 1) (pos 0) verdict.Shown → IsJudged box (base.Clause (clause_of ps ns)) verdict.Shown
  unfolding ListIsJudged IsJudged HasTrue
  first_shown some = inl some

  pub open_shown : Any (λ t. IsAt box t (pos 0)) ns → IsJudged box (base.Clause (clause_of ps ns)) verdict.Shown
  unfolding IsJudged HasTrue
  open_shown some = inr some

  pub open_unknown : ListIsJudged box ps (pos 1) (pos 0) verdict.Unknown → (Any (λ t. IsAt box t (pos 0)) ns → ⊥) → IsJudged box (base.Clause (clause_of ps ns)) verdict.Unknown
  unfolding ListIsJudged IsJudged HasTrue AllFalse
  open_unknown first none = ((λ has. elim has [ inl some ↦ first.0 some | inr some ↦ none some ]), (λ all. first.1 all.0))

  pub then_judged : (found : Verdict) → ListIsJudged box ps (pos 1) (pos 0) verdict.Refuted → ListIsJudged box ns (pos 0) (pos 1) found → IsJudged box (base.Clause (clause_of ps ns)) found
  unfolding ListIsJudged IsJudged HasTrue AllFalse
  then_judged verdict.Shown first then = inr then
  then_judged verdict.Refuted first then = (first.1, then.1)
  then_judged verdict.Unknown first then = ((λ has. elim has [ inl some ↦ first.0 some | inr some ↦ then.0 some ]), (λ all. then.1 all.1))
