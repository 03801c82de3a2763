-- The bounds of members that are taken.
use Rattle.std.proofs.Common.{◌≡◌, List, length, refl, sym, ap, ◌∙◌, subst, arith, inl, inr}
use Rattle.std.specs.Prelude.{ℤ, ◌≢◌, Contains}
use Rattle.fzn_model.specs.declared.term.Term.{Term}
use Rattle.fzn_model.specs.declared.con.Con.TheVariants as con
use Rattle.fzn_model.specs.Meaning.{val, Holds, AreUntaken, IsFree}
use Rattle.dom_store.specs.declared.pass.Passed.{Passed}
use Rattle.dom_store.specs.declared.pass.Passed.TheVariants as passed
use Rattle.dom_store.specs.Stores.{Stored}
use Rattle.fzn_model.specs.Bounds.{term_low, term_high, IsLookedAt}
use Rattle.fzn_model.proofs.Terms.{has_low, has_high}
use Rattle.dom_store.specs.Steps.{Spares}
use Rattle.dom_store.specs.Steps.{Step, NarrowsTerm, IsGone}
use Rattle.alldiff_prop.specs.Members.{IsReady}
use Rattle.alldiff_prop.specs.Untaken.{IsDropped, BoundsAreFree, AreFree}
use Rattle.alldiff_prop.proofs.Clearing.{member_in}
use Rattle.alldiff_prop.proofs.Ready.{ready_after}
use Rattle.dom_store.proofs.Stepping.{narrowed, step_as, step_idle, step_then}

-- a member doesn't have a taken value
spares : (xs : List Term) (taken : List ℤ) (t : Term) (value : ℤ) (box : List (List ℤ)) → Contains xs t → Contains taken value → Spares (λ z. z ≢ value) (Holds (con.AllDiffExcept xs taken)) t box
unfolding AreUntaken IsFree
spares xs taken t value box at has θ lies holds = λ e. holds.1 at.0 t at.1 (subst (λ x. Contains taken (val x θ)) (sym at.2) (subst (Contains taken) (sym e) has))

pub taken_idle : (xs : List Term) (taken : List ℤ) (t : Term) (value : ℤ) (s : Stored) → IsReady s.box xs → (Contains taken value → ⊥) → Step (IsDropped taken t value) (Holds (con.AllDiffExcept xs taken)) s s passed.Done
unfolding IsDropped
taken_idle xs taken t value s ready free = step_idle (IsDropped taken t value) (Holds (con.AllDiffExcept xs taken)) s ready.well_formed (λ has. absurd (free has))

pub taken_drops : (xs : List Term) (taken : List ℤ) (t : Term) (value : ℤ) (old new : Stored) (result : Passed) → Contains xs t → Contains taken value → NarrowsTerm (λ z. z ≢ value) (IsGone t value) t old new result → Step (IsDropped taken t value) (Holds (con.AllDiffExcept xs taken)) old new result
unfolding IsDropped
taken_drops xs taken t value old new result at has moves =
    step_as (IsGone t value) (IsDropped taken t value) (Holds (con.AllDiffExcept xs taken)) old new result (λ same gone taken_value. gone) (narrowed (Holds (con.AllDiffExcept xs taken)) moves (spares xs taken t value old.box at has))

-- where nothing was dropped, a bound, at which propagation looks, isn't taken
module _ (bound : List (List ℤ) → Term → ℤ) (taken : List ℤ) (t : Term) where
  abbrev IsFreeBound : List (List ℤ) → Type 0
  IsFreeBound box = Contains taken (bound box t) → ⊥

  bound_free : (Q : List ℤ → Type 0) (value : ℤ) (old new : Stored) (result : Passed) → IsLookedAt old.box t (bound old.box t) → value ≡ bound old.box t → Step (IsDropped taken t value) Q old new result → Step IsFreeBound Q old new result
  unfolding IsDropped IsGone
  bound_free Q value old new result looked is = step_as (IsDropped taken t value) IsFreeBound Q old new result (λ same dropped has.
      let here : bound new.box t ≡ value = ap (λ box. bound box t) same ∙ sym is in
      dropped (subst (Contains taken) here has) (subst (λ box. IsLookedAt box t value) (sym same) (subst (IsLookedAt old.box t) (sym is) looked)))

pub both_drop : (xs : List Term) (taken : List ℤ) (t : Term) (low high : ℤ) (a b d : Stored) (result : Passed) → IsReady a.box xs → Contains xs t → low ≡ term_low a.box t → high ≡ term_high b.box t
    → Step (IsDropped taken t low) (Holds (con.AllDiffExcept xs taken)) a b passed.Done → Step (IsDropped taken t high) (Holds (con.AllDiffExcept xs taken)) b d result → Step (BoundsAreFree taken t) (Holds (con.AllDiffExcept xs taken)) a d result
unfolding BoundsAreFree
both_drop xs taken t low high a b d result ready at is_low is_high first then =
    let Q : List ℤ → Type 0 = Holds (con.AllDiffExcept xs taken) in
    let later : IsReady b.box xs = ready_after (IsDropped taken t low) Q xs a b passed.Done first ready in
    let looked_low : IsLookedAt a.box t (term_low a.box t) = record { has = has_low a.box t ready.well_formed (member_in a.box xs t ready at); bound = λ wide. inl refl } in
    let looked_high : IsLookedAt b.box t (term_high b.box t) = record { has = has_high b.box t later.well_formed (member_in b.box xs t later at); bound = λ wide. inr refl } in
    step_then (IsFreeBound term_low taken t) (IsFreeBound term_high taken t) (BoundsAreFree taken t) Q a b d result (λ p q. (p, q))
    (bound_free term_low taken t Q low a b passed.Done looked_low is_low first)
    (bound_free term_high taken t Q high b d result looked_high is_high then)

-- where no number is taken, no bound is
pub none_taken : (taken : List ℤ) (xs : List Term) (box : List (List ℤ)) → length taken ≡ 0 → AreFree taken xs box
unfolding AreFree BoundsAreFree
none_taken taken xs box none k d h = ((λ has. absurd (omega (arith, has.1, none))), (λ has. absurd (omega (arith, has.1, none))))
