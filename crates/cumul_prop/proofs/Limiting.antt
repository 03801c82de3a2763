-- Starts within their limits.
use Rattle.std.proofs.Common.{◌≡◌, ℕ, ◌+◌, ◌<◌, List, length, get_or, ℤ, ◌≤ℤ◌, sym, subst, arith, inl, inr}
use Rattle.std.proofs.lemmas.Bool.{cases_lt}
use Rattle.std.proofs.lemmas.List.{get_or_default}
use Rattle.fzn_model.specs.declared.term.Term.{Term}
use Rattle.fzn_model.specs.declared.cumulative.CumTask.{CumTask}
use Rattle.fzn_model.specs.declared.cumulative.Used.{Used}
use Rattle.fzn_model.specs.declared.con.Con.TheVariants as con
use Rattle.fzn_model.specs.Meaning.{Holds}
use Rattle.fzn_model.specs.Bounds.{term_low, term_high}
use Rattle.dom_store.specs.Stores.{Stored}
use Rattle.dom_store.specs.declared.pass.Passed.{Passed}
use Rattle.dom_store.specs.declared.pass.Passed.TheVariants as passed
use Rattle.dom_store.specs.Narrowing.{Loses}
use Rattle.dom_store.specs.Steps.{Spares, Step, NarrowsTerm, LowIs, HighIs, IsAtLeast, IsAtMost}
use Rattle.dom_store.proofs.Laws.{in_before}
use Rattle.dom_store.proofs.Stepping.{narrowed, step_idle, step_then, step_end, step_end_after}
use Rattle.cumul_prop.specs.Parts.{IsReady}
use Rattle.cumul_prop.specs.Limits.{AreLimits}
use Rattle.cumul_prop.specs.Narrowing.{Bounded, AllBounded, LimitedAt, LimitedTo}

module _ (ks : List CumTask) (us : List Used) (b : Term) (limits : List (ℤ × ℤ)) where
  -- ---- what the box is known to have
  pub bounded_at : (n : ℕ) (box : List (List ℤ)) → n < length ks → AllBounded ks us b limits box → Bounded ks us b limits n box
  unfolding AllBounded
  bounded_at n box h all = all n h

  bounded_on : (at : ℕ) (old new : List (List ℤ)) → Loses (Holds (con.CumulUsed ks us b)) old new → Bounded ks us b limits at old → Bounded ks us b limits at new
  unfolding Bounded
  bounded_on at old new loses bounded d e θ lies holds = bounded d e θ (in_before (Holds (con.CumulUsed ks us b)) old new θ loses lies) holds

  pub all_bounded_after : (P : List (List ℤ) → Type 0) (old new : Stored) (result : Passed) → Step P (Holds (con.CumulUsed ks us b)) old new result → AllBounded ks us b limits old.box → AllBounded ks us b limits new.box
  unfolding AllBounded
  all_bounded_after P old new result step all at h = bounded_on at old.box new.box step.prunes.loses (all at h)

  pub all_bounded : (box : List (List ℤ)) → AreLimits box ks us b (length ks) limits → AllBounded ks us b limits box
  unfolding AllBounded Bounded
  all_bounded box are at h d e θ lies holds = let one = are.each at d e h in (one.least θ lies holds, one.greatest θ lies holds)

  -- ---- one start
  least_spared : (at : ℕ) (d : CumTask) (e : ℤ × ℤ) (box : List (List ℤ)) → Bounded ks us b limits at box → Spares (IsAtLeast (get_or limits at e).0) (Holds (con.CumulUsed ks us b)) (get_or ks at d).s box
  unfolding Bounded
  least_spared at d e box bounded θ lies holds = (bounded d e θ lies holds).0

  most_spared : (at : ℕ) (d : CumTask) (e : ℤ × ℤ) (box : List (List ℤ)) → Bounded ks us b limits at box → Spares (IsAtMost (get_or limits at e).1) (Holds (con.CumulUsed ks us b)) (get_or ks at d).s box
  unfolding Bounded
  most_spared at d e box bounded θ lies holds = (bounded d e θ lies holds).1

  limited_at : (at : ℕ) (d : CumTask) (e : ℤ × ℤ) (box : List (List ℤ)) → at < length ks → length limits ≡ length ks → LowIs (get_or ks at d).s (get_or limits at e).0 box → HighIs (get_or ks at d).s (get_or limits at e).1 box → LimitedAt ks limits at box
  unfolding LowIs HighIs LimitedAt
  limited_at at d e box inside count low high d' e' =
      let there : at < length limits = omega (arith, inside, count) in
      subst (λ (k : CumTask). ((get_or limits at e').0 ≤ℤ term_low box k.s) × (term_high box k.s ≤ℤ (get_or limits at e').1)) (get_or_default ks at d d' inside)
      (subst (λ (x : ℤ × ℤ). (x.0 ≤ℤ term_low box (get_or ks at d).s) × (term_high box (get_or ks at d).s ≤ℤ x.1)) (get_or_default limits at e e' there) (low, high))

  pub limited_then : (at : ℕ) (d : CumTask) (e : ℤ × ℤ) (old mid new : Stored) (result : Passed) → at < length ks → length limits ≡ length ks → Bounded ks us b limits at old.box
      → NarrowsTerm (IsAtLeast (get_or limits at e).0) (LowIs (get_or ks at d).s (get_or limits at e).0) (get_or ks at d).s old mid passed.Done → NarrowsTerm (IsAtMost (get_or limits at e).1) (HighIs (get_or ks at d).s (get_or limits at e).1) (get_or ks at d).s mid new result
      → Step (LimitedAt ks limits at) (Holds (con.CumulUsed ks us b)) old new result
  limited_then at d e old mid new result inside count bounded first second =
      let one = narrowed (Holds (con.CumulUsed ks us b)) first (least_spared at d e old.box bounded) in
      step_then (LowIs (get_or ks at d).s (get_or limits at e).0) (HighIs (get_or ks at d).s (get_or limits at e).1) (LimitedAt ks limits at) (Holds (con.CumulUsed ks us b)) old mid new result (limited_at at d e new.box inside count)
      one (narrowed (Holds (con.CumulUsed ks us b)) second (most_spared at d e mid.box (bounded_on at old.box mid.box one.prunes.loses bounded)))

  pub limited_never : (at : ℕ) (d : CumTask) (e : ℤ × ℤ) (old new : Stored) → Bounded ks us b limits at old.box
      → NarrowsTerm (IsAtLeast (get_or limits at e).0) (LowIs (get_or ks at d).s (get_or limits at e).0) (get_or ks at d).s old new passed.Empty → Step (LimitedAt ks limits at) (Holds (con.CumulUsed ks us b)) old new passed.Empty
  limited_never at d e old new bounded first = step_end (LowIs (get_or ks at d).s (get_or limits at e).0) (LimitedAt ks limits at) (Holds (con.CumulUsed ks us b)) old new (narrowed (Holds (con.CumulUsed ks us b)) first (least_spared at d e old.box bounded))

  -- ---- starts in a row
  pub limited_none : (s : Stored) → IsReady s.box ks us b → Step (LimitedTo ks limits 0) (Holds (con.CumulUsed ks us b)) s s passed.Done
  unfolding LimitedTo
  limited_none s ready = step_idle (LimitedTo ks limits 0) (Holds (con.CumulUsed ks us b)) s ready.well_formed (λ at h. absurd (omega arith))

  limited_both : (n : ℕ) (box : List (List ℤ)) → LimitedTo ks limits n box → LimitedAt ks limits n box → LimitedTo ks limits (n + 1) box
  unfolding LimitedTo
  limited_both n box before here at h = elim (cases_lt at n) [
    | inl less ↦ before at less
    | inr last ↦ let is : at ≡ n = omega (arith, h, last) in subst (λ i. LimitedAt ks limits i box) (sym is) here
  ]

  pub limited_more : (n : ℕ) (old mid new : Stored) → Step (LimitedTo ks limits n) (Holds (con.CumulUsed ks us b)) old mid passed.Done → Step (LimitedAt ks limits n) (Holds (con.CumulUsed ks us b)) mid new passed.Done → Step (LimitedTo ks limits (n + 1)) (Holds (con.CumulUsed ks us b)) old new passed.Done
  limited_more n old mid new first second = step_then (LimitedTo ks limits n) (LimitedAt ks limits n) (LimitedTo ks limits (n + 1)) (Holds (con.CumulUsed ks us b)) old mid new passed.Done (limited_both n new.box) first second

  pub limited_end : (n m : ℕ) (old mid new : Stored) → Step (LimitedTo ks limits n) (Holds (con.CumulUsed ks us b)) old mid passed.Done → Step (LimitedAt ks limits n) (Holds (con.CumulUsed ks us b)) mid new passed.Empty → Step (LimitedTo ks limits m) (Holds (con.CumulUsed ks us b)) old new passed.Empty
  limited_end n m old mid new first second = step_end_after (LimitedTo ks limits n) (LimitedAt ks limits n) (LimitedTo ks limits m) (Holds (con.CumulUsed ks us b)) old mid new first second
