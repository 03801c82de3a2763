-- A term that has to be outside a set.
use Rattle.std.proofs.Common.{◌≡◌, ℕ, ◌+◌, ◌<◌, ◌≤◌, List, length, get_or, sym, subst, ap, ◌∙◌, arith, inl, inr}
use Rattle.std.specs.Prelude.{ℤ, pos, ◌+ℤ◌, ◌≤ℤ◌}
use Rattle.std.specs.Int.{int_min, int_max}
use Rattle.std.proofs.lemmas.Int.{ints, clamps}
use Rattle.std.proofs.lemmas.Bool.{cases_lt}
use Rattle.std.proofs.lemmas.List.{get_or_default}
use Rattle.fzn_model.specs.declared.term.Term.{Term}
use Rattle.fzn_model.specs.declared.base.Base.TheVariants as base
use Rattle.fzn_model.specs.Sets.{IsIn, IsWithin}
use Rattle.fzn_model.specs.Meaning.{val}
use Rattle.fzn_model.specs.Limits.{TermIn}
use Rattle.fzn_model.specs.Boxes.{IsBox}
use Rattle.dom_store.specs.declared.pass.Passed.{Passed}
use Rattle.dom_store.specs.declared.pass.Passed.TheVariants as passed
use Rattle.dom_store.specs.Stores.{Stored}
use Rattle.fzn_model.specs.Bounds.{term_low, term_high, TermHas, IsWide, IsLookedAt}
use Rattle.dom_store.specs.Strength.{MemberIsOut}
use Rattle.fzn_model.proofs.Terms.{has_between}
use Rattle.dom_store.specs.Bases.{member_of}
use Rattle.dom_store.specs.Steps.{Step, NarrowsTerm, Gives, IsNot, IsGone}
use Rattle.dom_store.specs.declared.extreme.Extreme.{Extreme}
use Rattle.dom_store.specs.declared.extreme.Extreme.TheVariants as extreme
use Rattle.dom_store.specs.Extremes.{bound_of, Bounds, BoundsTerm}
use Rattle.dom_store.proofs.Limiting.{bound_value, values_bound}
use Rattle.reif_prop.specs.Failing.{Fails}
use Rattle.reif_prop.specs.Denying.{Misses, BoundIsOff, number_beside, AreOff, EachIsOff, RunIsOff, FirstRunsAreOff, IsDenied}
use Rattle.dom_store.proofs.Stepping.{narrowed, step_as, step_idle, step_for, step_end, step_both}
use Rattle.dom_store.proofs.Comparing.{below_or_from}

-- a number that the term can't have
pub gone_idle : (x : Term) (v : ℤ) (s : Stored) → IsBox s.box → (TermHas s.box x v → ⊥) → Step (IsGone x v) (Gives (IsNot v) x) s s passed.Done
unfolding IsGone
gone_idle x v s well_formed none = step_idle (IsGone x v) (Gives (IsNot v) x) s well_formed (λ looked. none looked.has)

module _ (x : Term) (run : ℤ × ℤ) where
  -- ---- a bound
  beside_off : (e : Extreme) (z : ℤ) → Bounds e (number_beside e run) z → IsWithin run z → ⊥
  unfolding IsWithin
  beside_off extreme.Least z beyond within = omega (arith, ints, beyond, within.1)
  beside_off extreme.Greatest z beyond within = omega (arith, ints, beyond, within.0)

  beside_spared : (e : Extreme) (number z : ℤ) → IsWithin run number → Bounds e number z → (IsWithin run z → ⊥) → Bounds e (number_beside e run) z
  unfolding IsWithin
  beside_spared extreme.Least number z within bounds misses = elim (below_or_from run.1 z) [
    | inl above ↦ omega (arith, ints, above)
    | inr to ↦ absurd (misses (omega (arith, ints, bounds, within.0), to))
  ]
  beside_spared extreme.Greatest number z within bounds misses = elim (below_or_from z run.0) [
    | inl below ↦ omega (arith, ints, below)
    | inr from ↦ absurd (misses (from, omega (arith, ints, bounds, within.1)))
  ]

  pub bound_off : (e : Extreme) (number : ℤ) (s : Stored) → IsBox s.box → number ≡ bound_of e x s.box → (IsWithin run number → ⊥) → Step (BoundIsOff e x run) (Misses x run) s s passed.Done
  unfolding BoundIsOff
  bound_off e number s well_formed is off = step_idle (BoundIsOff e x run) (Misses x run) s well_formed (subst (λ z. IsWithin run z → ⊥) is off)

  pub bound_left : (e : Extreme) (number next : ℤ) (old new : Stored) (result : Passed) → IsBox old.box → TermIn (length old.box) x → number ≡ bound_of e x old.box → IsWithin run number → next ≡ number_beside e run → NarrowsTerm (Bounds e next) (BoundsTerm e next x) x old new result → Step (BoundIsOff e x run) (Misses x run) old new result
  unfolding BoundIsOff Misses
  bound_left e number next old new result well_formed inside is within next_is narrows = step_as (BoundsTerm e next x) (BoundIsOff e x run) (Misses x run) old new result
      (λ same at. beside_off e (bound_of e x new.box) (subst (λ z. Bounds e z (bound_of e x new.box)) next_is (values_bound e x next new.box at)))
      (narrowed (Misses x run) narrows (λ θ lies misses. subst (λ z. Bounds e z (val x θ)) (sym next_is)
      (beside_spared e number (val x θ) within (subst (λ z. Bounds e z (val x θ)) (sym is) (bound_value e old.box x θ well_formed inside lies)) misses)))

  -- ---- each number of a run
  pub off_none : (low : ℤ) (s : Stored) → IsBox s.box → Step (AreOff x low low) (Misses x run) s s passed.Done
  unfolding AreOff
  off_none low s well_formed = step_idle (AreOff x low low) (Misses x run) s well_formed (λ v from less. absurd (omega (arith, ints)))

  off_then : (low v : ℤ) (a b d : Stored) (result : Passed) → run.0 ≤ℤ v → v ≤ℤ run.1 → Step (AreOff x low v) (Misses x run) a b passed.Done → Step (IsGone x v) (Gives (IsNot v) x) b d result → Step (λ box. AreOff x low v box × IsGone x v box) (Misses x run) a d result
  unfolding IsWithin Gives Misses
  off_then low v a b d result from to so_far one = step_both (AreOff x low v) (IsGone x v) (Misses x run) a b d result so_far
      (step_for (IsGone x v) (IsGone x v) (Gives (IsNot v) x) (Misses x run) b d result (λ same off. off) (λ θ lies misses is. misses (subst (λ z. (run.0 ≤ℤ z) × (z ≤ℤ run.1)) (sym is) (from, to))) one)

  pub off_more : (low v : ℤ) (a b d : Stored) → run.0 ≤ℤ v → v ≤ℤ run.1 → Step (AreOff x low v) (Misses x run) a b passed.Done → Step (IsGone x v) (Gives (IsNot v) x) b d passed.Done → Step (AreOff x low (v +ℤ pos 1)) (Misses x run) a d passed.Done
  unfolding AreOff IsGone
  off_more low v a b d from to so_far one = step_for (λ box. AreOff x low v box × IsGone x v box) (AreOff x low (v +ℤ pos 1)) (Misses x run) (Misses x run) a d passed.Done
      (λ same both w above less looked. elim (below_or_from w v) [
        | inl below ↦ both.0 w above below looked
        | inr past ↦ both.1 (subst (IsLookedAt d.box x) (omega (arith, ints)) looked)
      ])
      (λ θ lies misses. misses) (off_then low v a b d passed.Done from to so_far one)

  pub off_end : (low v end : ℤ) (a b d : Stored) → run.0 ≤ℤ v → v ≤ℤ run.1 → Step (AreOff x low v) (Misses x run) a b passed.Done → Step (IsGone x v) (Gives (IsNot v) x) b d passed.Empty → Step (AreOff x low end) (Misses x run) a d passed.Empty
  off_end low v end a b d from to so_far one = step_end (λ box. AreOff x low v box × IsGone x v box) (AreOff x low end) (Misses x run) a d (off_then low v a b d passed.Empty from to so_far one)

  pub off_all : (low v end : ℤ) (old new : Stored) → end ≤ℤ v → Step (AreOff x low v) (Misses x run) old new passed.Done → Step (AreOff x low end) (Misses x run) old new passed.Done
  unfolding AreOff
  off_all low v end old new past step = step_for (AreOff x low v) (AreOff x low end) (Misses x run) (Misses x run) old new passed.Done (λ same off w above less looked. off w above (omega (arith, ints, less, past)) looked) (λ θ lies misses. misses) step

  -- ---- each value of a term with a bitmap
  pub wide_left : (s : Stored) → IsBox s.box → IsWide s.box x → Step (EachIsOff x run) (Misses x run) s s passed.Done
  unfolding EachIsOff
  wide_left s well_formed wide = step_idle (EachIsOff x run) (Misses x run) s well_formed (inl wide)

  pub each_off : (first end : ℤ) (old new : Stored) (result : Passed) → IsBox old.box → TermIn (length old.box) x → first ≡ int_max run.0 (term_low old.box x) → end ≡ (int_min run.1 (term_high old.box x) +ℤ pos 1) → Step (AreOff x first end) (Misses x run) old new result → Step (EachIsOff x run) (Misses x run) old new result
  unfolding AreOff EachIsOff IsWithin
  each_off first end old new result well_formed inside first_is end_is step = step_for (AreOff x first end) (EachIsOff x run) (Misses x run) (Misses x run) old new result
      (λ same off. inr (λ v looked within.
      let ends = has_between old.box x v well_formed inside (subst (λ b. TermHas b x v) same looked.has) in
      off v (omega (arith, ints, clamps, first_is, ends.0, within.0)) (omega (arith, ints, clamps, end_is, ends.1, within.1)) looked))
      (λ θ lies misses. misses) step

  -- ---- a whole run
  run_off : (box : List (List ℤ)) → BoundIsOff extreme.Least x run box → BoundIsOff extreme.Greatest x run box → EachIsOff x run box → RunIsOff x run box
  unfolding BoundIsOff bound_of EachIsOff RunIsOff
  run_off box low high (inr each) v looked within = each v looked within
  run_off box low high (inl wide) v looked within = elim (looked.bound wide) [
    | inl is ↦ low (subst (IsWithin run) is within)
    | inr is ↦ high (subst (IsWithin run) is within)
  ]

  abbrev LowIsOff : List (List ℤ) → Type 0
  LowIsOff = BoundIsOff extreme.Least x run

  abbrev HighIsOff : List (List ℤ) → Type 0
  HighIsOff = BoundIsOff extreme.Greatest x run

  pub low_end : (a b : Stored) → Step (LowIsOff) (Misses x run) a b passed.Empty → Step (RunIsOff x run) (Misses x run) a b passed.Empty
  low_end a b step = step_end (LowIsOff) (RunIsOff x run) (Misses x run) a b step

  pub high_end : (a b d : Stored) → Step (LowIsOff) (Misses x run) a b passed.Done → Step (HighIsOff) (Misses x run) b d passed.Empty → Step (RunIsOff x run) (Misses x run) a d passed.Empty
  high_end a b d first then = step_end (λ box. LowIsOff box × HighIsOff box) (RunIsOff x run) (Misses x run) a d (step_both (LowIsOff) (HighIsOff) (Misses x run) a b d passed.Empty first then)

  pub run_steps : (a b d e : Stored) (result : Passed) → Step (LowIsOff) (Misses x run) a b passed.Done → Step (HighIsOff) (Misses x run) b d passed.Done → Step (EachIsOff x run) (Misses x run) d e result → Step (RunIsOff x run) (Misses x run) a e result
  run_steps a b d e result first then last = step_for (λ box. (LowIsOff box × HighIsOff box) × EachIsOff x run box) (RunIsOff x run) (Misses x run) (Misses x run) a e result
      (λ same all. run_off e.box all.0.0 all.0.1 all.1) (λ θ lies misses. misses)
      (step_both (λ box. LowIsOff box × HighIsOff box) (EachIsOff x run) (Misses x run) a d e result (step_both (LowIsOff) (HighIsOff) (Misses x run) a b d passed.Done first then) last)

-- ---- all runs
module _ (x : Term) (set : List (ℤ × ℤ)) where
  pub runs_none : (s : Stored) → IsBox s.box → Step (FirstRunsAreOff x set 0) (Fails (base.Member (member_of x set))) s s passed.Done
  unfolding FirstRunsAreOff
  runs_none s well_formed = step_idle (FirstRunsAreOff x set 0) (Fails (base.Member (member_of x set))) s well_formed (λ k d h. absurd (omega arith))

  misses_run : (k : ℕ) (run : ℤ × ℤ) → k < length set → get_or set k run ≡ run → (θ : List ℤ) → Fails (base.Member (member_of x set)) θ → Misses x run θ
  unfolding Fails Misses IsIn
  misses_run k run h is θ fails within = fails (k, run, h, is, within)

  runs_then : (n : ℕ) (run : ℤ × ℤ) (a b d : Stored) (result : Passed) → n < length set → get_or set n run ≡ run → Step (FirstRunsAreOff x set n) (Fails (base.Member (member_of x set))) a b passed.Done → Step (RunIsOff x run) (Misses x run) b d result
      → Step (λ box. FirstRunsAreOff x set n box × RunIsOff x run box) (Fails (base.Member (member_of x set))) a d result
  runs_then n run a b d result h is so_far one = step_both (FirstRunsAreOff x set n) (RunIsOff x run) (Fails (base.Member (member_of x set))) a b d result so_far
      (step_for (RunIsOff x run) (RunIsOff x run) (Misses x run) (Fails (base.Member (member_of x set))) b d result (λ same off. off) (λ θ lies fails. misses_run n run h is θ fails) one)

  pub runs_more : (n : ℕ) (run : ℤ × ℤ) (a b d : Stored) → n < length set → get_or set n run ≡ run → Step (FirstRunsAreOff x set n) (Fails (base.Member (member_of x set))) a b passed.Done → Step (RunIsOff x run) (Misses x run) b d passed.Done
      → Step (FirstRunsAreOff x set (n + 1)) (Fails (base.Member (member_of x set))) a d passed.Done
  unfolding FirstRunsAreOff RunIsOff
  runs_more n run a b d h is so_far one = step_for (λ box. FirstRunsAreOff x set n box × RunIsOff x run box) (FirstRunsAreOff x set (n + 1)) (Fails (base.Member (member_of x set))) (Fails (base.Member (member_of x set))) a d passed.Done
      (λ same both k e less v looked within. elim (cases_lt k n) [
        | inl before ↦ both.0 k e before v looked within
        | inr after ↦
            let here : k ≡ n = omega arith in
            let there : get_or set k e ≡ run = ap (λ j. get_or set j e) here ∙ get_or_default set n e run h ∙ is in
            both.1 v looked (subst (λ r. IsWithin r v) there within)
      ])
      (λ θ lies fails. fails) (runs_then n run a b d passed.Done h is so_far one)

  pub runs_end : (n : ℕ) (run : ℤ × ℤ) (a b d : Stored) → n < length set → get_or set n run ≡ run → Step (FirstRunsAreOff x set n) (Fails (base.Member (member_of x set))) a b passed.Done → Step (RunIsOff x run) (Misses x run) b d passed.Empty
      → Step (IsDenied (base.Member (member_of x set))) (Fails (base.Member (member_of x set))) a d passed.Empty
  runs_end n run a b d h is so_far one = step_end (λ box. FirstRunsAreOff x set n box × RunIsOff x run box) (IsDenied (base.Member (member_of x set))) (Fails (base.Member (member_of x set))) a d (runs_then n run a b d passed.Empty h is so_far one)

  pub runs_all : (n : ℕ) (a b : Stored) → length set ≤ n → Step (FirstRunsAreOff x set n) (Fails (base.Member (member_of x set))) a b passed.Done → Step (IsDenied (base.Member (member_of x set))) (Fails (base.Member (member_of x set))) a b passed.Done
  unfolding FirstRunsAreOff IsDenied MemberIsOut IsIn
  runs_all n a b all step = step_for (FirstRunsAreOff x set n) (IsDenied (base.Member (member_of x set))) (Fails (base.Member (member_of x set))) (Fails (base.Member (member_of x set))) a b passed.Done
      (λ same off v looked (k, run, h, is, within). off k run (omega arith) v looked (subst (λ r. IsWithin r v) (sym is) within)) (λ θ lies fails. fails) step
