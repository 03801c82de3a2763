-- A clause whose literals all have to be false.
use Rattle.std.proofs.Common.{◌≡◌, ℕ, ◌+◌, ◌<◌, ◌≤◌, List, length, get_or, refl, sym, subst, ap, ◌∙◌, arith, inl, inr}
use Rattle.std.specs.Prelude.{ℤ, pos, ◌+ℤ◌, All}
use Rattle.std.proofs.lemmas.Int.{ints}
use Rattle.std.proofs.lemmas.Bool.{cases_lt}
use Rattle.std.proofs.lemmas.List.{get_or_default}
use Rattle.std.proofs.lemmas.List.Elements.{All-contains}
use Rattle.fzn_model.specs.declared.term.Term.{Term}
use Rattle.fzn_model.specs.declared.term.Term.TheVariants as term
use Rattle.fzn_model.specs.declared.clause.Clause.{Clause}
use Rattle.fzn_model.specs.declared.base.Base.TheVariants as base
use Rattle.fzn_model.specs.Meaning.{val, HasValue}
use Rattle.fzn_model.specs.Limits.{TermIn, IsBit}
use Rattle.fzn_model.specs.Boxes.{IsBox, InBox, domain_at}
use Rattle.dom_store.specs.declared.pass.Passed.{Passed}
use Rattle.dom_store.specs.declared.pass.Passed.TheVariants as passed
use Rattle.dom_store.specs.Stores.{Stored}
use Rattle.fzn_model.specs.Bounds.{IsAt, TermHas}
use Rattle.fzn_model.specs.Booleans.{IsBoolean}
use Rattle.dom_store.specs.Strength.{AllFalse}
use Rattle.fzn_model.proofs.Terms.{val_has}
use Rattle.reif_prop.specs.Parts.{IsOver}
use Rattle.dom_store.specs.Steps.{Step, Gives, Is, ValueIs}
use Rattle.reif_prop.specs.Failing.{Fails}
use Rattle.reif_prop.specs.Denying.{AllHave, FirstAre, IsDenied}
use Rattle.dom_store.proofs.Stepping.{step_idle, step_for, step_end, step_both}

-- a term that has the value alone
pub at_idle : (t : Term) (v : ℤ) (s : Stored) → IsBox s.box → IsAt s.box t v → Step (ValueIs t v) (Gives (Is v) t) s s passed.Done
unfolding ValueIs
at_idle t v s well_formed at = step_idle (ValueIs t v) (Gives (Is v) t) s well_formed at

-- ---- a list of terms that all have a value
module _ (ts : List Term) (v : ℤ) where
  pub first_none : (s : Stored) → IsBox s.box → Step (FirstAre ts v 0) (AllHave ts v) s s passed.Done
  unfolding FirstAre
  first_none s well_formed = step_idle (FirstAre ts v 0) (AllHave ts v) s well_formed (λ k d h. absurd (omega arith))

  one_has : (k : ℕ) (t : Term) → k < length ts → get_or ts k t ≡ t → (θ : List ℤ) → AllHave ts v θ → Gives (Is v) t θ
  unfolding AllHave Gives
  one_has k t h is θ all = subst (λ u. val u θ ≡ v) is (all k t h)

  first_then : (n : ℕ) (t : Term) (a b d : Stored) (result : Passed) → n < length ts → get_or ts n t ≡ t → Step (FirstAre ts v n) (AllHave ts v) a b passed.Done → Step (ValueIs t v) (Gives (Is v) t) b d result
      → Step (λ box. FirstAre ts v n box × ValueIs t v box) (AllHave ts v) a d result
  first_then n t a b d result h is so_far one = step_both (FirstAre ts v n) (ValueIs t v) (AllHave ts v) a b d result so_far
      (step_for (ValueIs t v) (ValueIs t v) (Gives (Is v) t) (AllHave ts v) b d result (λ same at. at) (λ θ lies all. one_has n t h is θ all) one)

  pub first_more : (n : ℕ) (t : Term) (a b d : Stored) → n < length ts → get_or ts n t ≡ t → Step (FirstAre ts v n) (AllHave ts v) a b passed.Done → Step (ValueIs t v) (Gives (Is v) t) b d passed.Done → Step (FirstAre ts v (n + 1)) (AllHave ts v) a d passed.Done
  unfolding FirstAre ValueIs
  first_more n t a b d h is so_far one = step_for (λ box. FirstAre ts v n box × ValueIs t v box) (FirstAre ts v (n + 1)) (AllHave ts v) (AllHave ts v) a d passed.Done
      (λ same both k e less. elim (cases_lt k n) [
        | inl before ↦ both.0 k e before
        | inr after ↦
            let here : k ≡ n = omega arith in
            let there : get_or ts k e ≡ t = ap (λ j. get_or ts j e) here ∙ get_or_default ts n e t h ∙ is in
            subst (λ u. IsAt d.box u v) (sym there) both.1
      ])
      (λ θ lies all. all) (first_then n t a b d passed.Done h is so_far one)

  pub first_end : (n m : ℕ) (t : Term) (a b d : Stored) → n < length ts → get_or ts n t ≡ t → Step (FirstAre ts v n) (AllHave ts v) a b passed.Done → Step (ValueIs t v) (Gives (Is v) t) b d passed.Empty → Step (FirstAre ts v m) (AllHave ts v) a d passed.Empty
  first_end n m t a b d h is so_far one = step_end (λ box. FirstAre ts v n box × ValueIs t v box) (FirstAre ts v m) (AllHave ts v) a d (first_then n t a b d passed.Empty h is so_far one)

  pub first_all : (n : ℕ) (a b : Stored) → length ts ≤ n → Step (FirstAre ts v n) (AllHave ts v) a b passed.Done → Step (FirstAre ts v (length ts)) (AllHave ts v) a b passed.Done
  unfolding FirstAre
  first_all n a b all step = step_for (FirstAre ts v n) (FirstAre ts v (length ts)) (AllHave ts v) (AllHave ts v) a b passed.Done (λ same at k e less. at k e (omega arith)) (λ θ lies have. have) step

-- ---- Booleans
-- a Boolean has a value 0 or 1
pub has_bit : (box : List (List ℤ)) (t : Term) (v : ℤ) → IsBoolean box t → TermHas box t v → IsBit v
has_bit box (term.Const z) v bit has = subst IsBit (sym has) bit
has_bit box (term.Var k) v bits has = All-contains IsBit (domain_at box k) v bits has

pub val_bit : (box : List (List ℤ)) (t : Term) (θ : List ℤ) → IsBoolean box t → TermIn (length box) t → InBox box θ → IsBit (val t θ)
val_bit box t θ bit inside lies = has_bit box t (val t θ) bit (val_has box t θ inside lies)

-- the values of Booleans are all v, where none is the other value
only_other : (v w : ℤ) → (v +ℤ w) ≡ pos 1 → IsBit v → (z : ℤ) → IsBit z → (z ≡ w → ⊥) → z ≡ v
only_other v w sum bit z bits differs = omega (arith, ints, sum, bit.0, bit.1, bits.0, bits.1, differs)

all_other : (ts : List Term) (v w : ℤ) (box : List (List ℤ)) (θ : List ℤ) → (v +ℤ w) ≡ pos 1 → IsBit v → All (IsBoolean box) ts → All (TermIn (length box)) ts → InBox box θ → (HasValue ts w θ → ⊥) → AllHave ts v θ
unfolding AllHave HasValue
all_other ts v w box θ sum bit booleans inside lies none k d h =
    let t : Term = get_or ts k d in
    only_other v w sum bit (val t θ) (val_bit box t θ (booleans k d h) (inside k d h) lies) (λ e. none (k, t, h, get_or_default ts k t d h, e))

-- ---- the literals of a clause
module _ (c : Clause) where
  all_zero : (box : List (List ℤ)) → IsOver box (base.Clause c) → (θ : List ℤ) → InBox box θ → Fails (base.Clause c) θ → AllHave c.pos (pos 0) θ
  unfolding Fails
  all_zero box over θ lies fails = all_other c.pos (pos 0) (pos 1) box θ refl (omega (arith, ints), omega (arith, ints)) over.booleans.0 over.kept.pos.terms lies (λ has. fails (inl has))

  all_one : (box : List (List ℤ)) → IsOver box (base.Clause c) → (θ : List ℤ) → InBox box θ → Fails (base.Clause c) θ → AllHave c.neg (pos 1) θ
  unfolding Fails
  all_one box over θ lies fails = all_other c.neg (pos 1) (pos 0) box θ refl (omega (arith, ints), omega (arith, ints)) over.booleans.1 over.kept.neg.terms lies (λ has. fails (inr has))

  pub positive_false : (n : ℕ) (old new : Stored) (result : Passed) → IsOver old.box (base.Clause c) → Step (FirstAre c.pos (pos 0) n) (AllHave c.pos (pos 0)) old new result → Step (FirstAre c.pos (pos 0) n) (Fails (base.Clause c)) old new result
  positive_false n old new result over step = step_for (FirstAre c.pos (pos 0) n) (FirstAre c.pos (pos 0) n) (AllHave c.pos (pos 0)) (Fails (base.Clause c)) old new result (λ same at. at) (all_zero old.box over) step

  negative_false : (n : ℕ) (old new : Stored) (result : Passed) → IsOver old.box (base.Clause c) → Step (FirstAre c.neg (pos 1) n) (AllHave c.neg (pos 1)) old new result → Step (FirstAre c.neg (pos 1) n) (Fails (base.Clause c)) old new result
  negative_false n old new result over step = step_for (FirstAre c.neg (pos 1) n) (FirstAre c.neg (pos 1) n) (AllHave c.neg (pos 1)) (Fails (base.Clause c)) old new result (λ same at. at) (all_one old.box over) step

  pub clause_end : (n : ℕ) (a b : Stored) → Step (FirstAre c.pos (pos 0) n) (Fails (base.Clause c)) a b passed.Empty → Step (IsDenied (base.Clause c)) (Fails (base.Clause c)) a b passed.Empty
  clause_end n a b step = step_end (FirstAre c.pos (pos 0) n) (IsDenied (base.Clause c)) (Fails (base.Clause c)) a b step

  pub clause_denied : (a b d : Stored) (result : Passed) → IsOver b.box (base.Clause c) → Step (FirstAre c.pos (pos 0) (length c.pos)) (Fails (base.Clause c)) a b passed.Done → Step (FirstAre c.neg (pos 1) (length c.neg)) (AllHave c.neg (pos 1)) b d result → Step (IsDenied (base.Clause c)) (Fails (base.Clause c)) a d result
  unfolding FirstAre IsDenied AllFalse
  clause_denied a b d result over first then = step_for (λ box. FirstAre c.pos (pos 0) (length c.pos) box × FirstAre c.neg (pos 1) (length c.neg) box) (IsDenied (base.Clause c)) (Fails (base.Clause c)) (Fails (base.Clause c)) a d result
      (λ same both. ((λ k e h. both.0 k e h), (λ k e h. both.1 k e h))) (λ θ lies fails. fails)
      (step_both (FirstAre c.pos (pos 0) (length c.pos)) (FirstAre c.neg (pos 1) (length c.neg)) (Fails (base.Clause c)) a b d result first (negative_false (length c.neg) b d result over then))
