-- The values that a term has, against a set.
use Rattle.std.proofs.Common.{◌≡◌, ℕ, zero, suc, ◌+◌, ◌-◌, ◌<◌, ◌≤◌, ◌⊎◌, ◌↔◌, List, length, get_or, sym, subst, ◌∙◌, arith, below_more, inl, inr}
use Rattle.std.specs.Prelude.{ℤ, pos, ◌+ℤ◌, ◌≤ℤ◌, ◌<ℤ◌, All}
use Rattle.std.specs.Int.{int_min, int_max}
use Rattle.std.proofs.lemmas.Int.{ints, clamps}
use Rattle.std.proofs.lemmas.Bool.{cases_lt}
use Rattle.std.proofs.lemmas.List.{get_or_default}
use Rattle.fzn_model.specs.declared.term.Term.{Term}
use Rattle.fzn_model.specs.Sets.{IsIn, IsWithin, AreRuns}
use Rattle.fzn_model.specs.Limits.{TermIn}
use Rattle.fzn_model.specs.Boxes.{IsBox}
use Rattle.fzn_model.specs.Bounds.{term_low, term_high, TermHas}
use Rattle.fzn_model.proofs.Reaching.{both_rise}
use Rattle.fzn_model.proofs.Terms.{has_between}
use Rattle.dom_store.proofs.Comparing.{below_or_from}
use Rattle.reif_prop.specs.Values.{HasWithin, IsFreeOf, HasNoneBefore, AllInside, AllOutside, run_at, IsPast, IsBefore, HasInGap, GapsAreFree}

-- ---- the runs of a set
rises : (runs : List (ℤ × ℤ)) (i j : ℕ) → AreRuns runs → i ≤ j → j < length runs → ((run_at runs i).0 ≤ℤ (run_at runs j).0) × ((run_at runs i).1 ≤ℤ (run_at runs j).1)
rises runs i j a le h = both_rise runs i j (pos 0, pos 0) a le h

-- a number is in one of the first gaps, in the set, or above the first runs
pub located : (set : List (ℤ × ℤ)) (v : ℤ) (n : ℕ) → n ≤ length set → ((k : ℕ) × (k < n) × IsPast set k v × IsBefore set k v) ⊎ (IsIn set v ⊎ IsPast set n v)
unfolding IsIn IsWithin
located set v zero h = inr (inr (λ less. absurd (omega arith)))
located set v (suc n) h = elim (located set v n (omega arith)) [
  | inl (k, less, past, before) ↦ inl (k, omega arith, past, before)
  | inr (inl there) ↦ inr (inl there)
  | inr (inr past) ↦ elim (below_or_from v (run_at set n).0) [
    | inl below ↦ inl (n, omega arith, past, λ inside. below)
    | inr from ↦ elim (below_or_from (run_at set n).1 v) [
      | inl beyond ↦ inr (inr (λ less. subst (λ k. (run_at set k).1 <ℤ v) (omega arith) beyond))
      | inr to ↦ inr (inl (n, run_at set n, omega arith, get_or_default set n (run_at set n) (pos 0, pos 0) (omega arith), (from, to)))
    ]
  ]
]

module _ (box : List (List ℤ)) (x : Term) where
  -- ---- from a number to another
  pub within_is : (low high first end v : ℤ) → first ≡ int_max low (term_low box x) → end ≡ (int_min high (term_high box x) +ℤ pos 1) → first ≤ℤ v → v <ℤ end → TermHas box x v → HasWithin box x low high
  unfolding HasWithin
  within_is low high first end v e f from to has = (v, omega (arith, ints, clamps), omega (arith, ints, clamps), has)

  pub none_first : (low first : ℤ) → IsBox box → TermIn (length box) x → first ≡ int_max low (term_low box x) → HasNoneBefore box x low first
  unfolding HasNoneBefore
  none_first low first well_formed inside e v from less has =
      let ends = has_between box x v well_formed inside has in
      omega (arith, ints, clamps, ends.0)

  pub none_more : (low v : ℤ) → HasNoneBefore box x low v → (TermHas box x v → ⊥) → HasNoneBefore box x low (v +ℤ pos 1)
  unfolding HasNoneBefore
  none_more low v before none w from less has = elim (below_or_from w v) [
    | inl below ↦ before w from below has
    | inr above ↦ none (subst (TermHas box x) (omega (arith, ints)) has)
  ]

  pub none_within : (low high v end : ℤ) → IsBox box → TermIn (length box) x → end ≡ (int_min high (term_high box x) +ℤ pos 1) → end ≤ℤ v → HasNoneBefore box x low v → HasWithin box x low high → ⊥
  unfolding HasNoneBefore HasWithin
  none_within low high v end well_formed inside e past before (w, from, to, has) =
      let ends = has_between box x w well_formed inside has in
      before w from (omega (arith, ints, clamps, ends.1)) has

  -- ---- gaps
  pub gap_is : (set : List (ℤ × ℤ)) (k : ℕ) (low high : ℤ) → ((v : ℤ) → TermHas box x v → (IsPast set k v ↔ (low ≤ℤ v))) → ((v : ℤ) → TermHas box x v → (IsBefore set k v ↔ (v ≤ℤ high))) → HasWithin box x low high ↔ HasInGap box x set k
  unfolding HasWithin HasInGap
  gap_is set k low high past before =
      ((λ (v, from, to, has). (v, has, (past v has).1 from, (before v has).1 to)), (λ (v, has, above, below). (v, (past v has).0 above, (before v has).0 below, has)))

  pub first_gap : (set : List (ℤ × ℤ)) (k : ℕ) (low : ℤ) → IsBox box → TermIn (length box) x → low ≡ term_low box x → k ≡ 0 → (v : ℤ) → TermHas box x v → (IsPast set k v ↔ (low ≤ℤ v))
  first_gap set k low well_formed inside e first v has =
      let ends = has_between box x v well_formed inside has in
      ((λ past. omega (arith, ints, ends.0, e)), (λ from less. absurd (omega arith)))

  pub last_gap : (set : List (ℤ × ℤ)) (k : ℕ) (high : ℤ) → IsBox box → TermIn (length box) x → high ≡ term_high box x → k ≡ length set → (v : ℤ) → TermHas box x v → (IsBefore set k v ↔ (v ≤ℤ high))
  last_gap set k high well_formed inside e last v has =
      let ends = has_between box x v well_formed inside has in
      ((λ before. omega (arith, ints, ends.1, e)), (λ to less. absurd (omega arith)))

  pub gaps_none : (set : List (ℤ × ℤ)) → GapsAreFree box x set 0
  unfolding GapsAreFree
  gaps_none set k h = absurd (omega arith)

  pub gaps_more : (set : List (ℤ × ℤ)) (n : ℕ) → GapsAreFree box x set n → (HasInGap box x set n → ⊥) → GapsAreFree box x set (n + 1)
  unfolding GapsAreFree
  gaps_more set n before here = below_more _ _ before here

  pub gaps_all : (set : List (ℤ × ℤ)) (n : ℕ) → length set + 1 ≤ n → GapsAreFree box x set n → AllInside box x set
  unfolding GapsAreFree AllInside HasInGap
  gaps_all set n all free v has = elim (located set v (length set) (omega arith)) [
    | inl (k, less, past, before) ↦ absurd (free k (omega arith) (v, has, past, before))
    | inr (inl there) ↦ there
    | inr (inr past) ↦ absurd (free (length set) (omega arith) (v, has, past, λ h. absurd (omega arith)))
  ]

  pub gap_outside : (set : List (ℤ × ℤ)) (k : ℕ) → AreRuns set → k ≤ length set → HasInGap box x set k → AllInside box x set → ⊥
  unfolding HasInGap AllInside IsIn IsWithin
  gap_outside set k runs few (v, has, past, before) all =
      let (j, run, h, is, (from, to)) = all v has in
      let here : run ≡ run_at set j = sym is ∙ get_or_default set j run (pos 0, pos 0) h in
      let begins : (run_at set j).0 ≤ℤ v = subst (λ r. r.0 ≤ℤ v) here from in
      let ends : v ≤ℤ (run_at set j).1 = subst (λ r. v ≤ℤ r.1) here to in
      elim (cases_lt j k) [
        | inl less ↦
            let rise = rises set j (k - 1) runs (omega arith) (omega arith) in
            let above : (run_at set (k - 1)).1 <ℤ v = past (omega arith) in
            omega (arith, ints, rise.1, above, ends)
        | inr more ↦
            let rise = rises set k j runs more h in
            let below : v <ℤ (run_at set k).0 = before (omega arith) in
            omega (arith, ints, rise.0, below, begins)
      ]

  -- ---- runs
  pub runs_outside : (set : List (ℤ × ℤ)) → All (IsFreeOf box x) set → AllOutside box x set
  unfolding IsFreeOf HasWithin AllOutside IsIn IsWithin
  runs_outside set all v has (k, run, h, is, (from, to)) = all k run h (rw is (v, from, to, has))

  pub outside_runs : (set : List (ℤ × ℤ)) → AllOutside box x set → All (IsFreeOf box x) set
  unfolding IsFreeOf HasWithin AllOutside IsIn IsWithin
  outside_runs set out k d h (v, from, to, has) = out v has (k, get_or set k d, h, get_or_default set k (get_or set k d) d h, (from, to))
