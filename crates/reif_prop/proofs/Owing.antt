-- From the steps of a pass to what is owed.
use Rattle.std.proofs.Common.{◌≡◌, suc, List, length, sym, subst, ◌∙◌, arith, Bool, true, false}
use Rattle.std.specs.Prelude.{not, ℤ, All}
use Rattle.std.proofs.lemmas.Int.{ints}
use Rattle.fzn_model.specs.declared.term.Term.{Term}
use Rattle.fzn_model.specs.declared.base.Base.{Base}
use Rattle.fzn_model.specs.declared.con.Con.TheVariants as con
use Rattle.fzn_model.specs.Meaning.{val, bit, Holds}
use Rattle.fzn_model.specs.Limits.{TermIn, IsBit}
use Rattle.fzn_model.specs.Boxes.{IsBox}
use Rattle.fzn_model.specs.Bounds.{IsFixed, IsAt}
use Rattle.fzn_model.specs.Booleans.{FitsBox}
use Rattle.fzn_model.specs.Named.{base_terms, con_terms}
use Rattle.fzn_model.proofs.Terms.{at_val}
use Rattle.dom_store.specs.declared.pass.Passed.{Passed}
use Rattle.dom_store.specs.declared.pass.Passed.TheVariants as passed
use Rattle.dom_store.specs.Stores.{Stored}
use Rattle.dom_store.specs.Strength.{ConIsOwed, IsChecked}
use Rattle.dom_store.specs.Steps.{Step, Gives, Is, ValueIs}
use Rattle.dom_store.proofs.Stepping.{step_idle, step_none, step_for}
use Rattle.reif_prop.specs.declared.verdict.Verdict.TheVariants as verdict
use Rattle.reif_prop.specs.Parts.{IsOver}
use Rattle.reif_prop.specs.Failing.{Fails}
use Rattle.reif_prop.specs.Judging.{IsJudged, IsTested, CanHold, HasFailed}
use Rattle.reif_prop.proofs.Clauses.{val_bit}
use Rattle.reif_prop.proofs.Showing.{shown_holds, refuted_fails, fixed_refuted}

-- ---- the term
other_bit : (f : Bool) (z : ℤ) → IsBit z → (z ≡ bit f → ⊥) → z ≡ bit (not f)
other_bit true z b apart = omega (arith, ints, b.0, b.1, apart)
other_bit false z b apart = omega (arith, ints, b.0, b.1, apart)

bits_apart : (f : Bool) → bit (not f) ≡ bit f → ⊥
bits_apart true e = omega (arith, ints, e)
bits_apart false e = omega (arith, ints, e)

module _ (b : Base) (r : Term) (f : Bool) where
  pub over_base : (box : List (List ℤ)) → IsBox box → FitsBox box (con.Reif b r f) → IsOver box b
  over_base box well_formed fits_box = record { well_formed = well_formed; kept = fits_box.kept.0; booleans = fits_box.booleans.0 }

  pub term_in : (box : List (List ℤ)) → FitsBox box (con.Reif b r f) → TermIn (length box) r
  term_in box fits_box = fits_box.kept.1

  -- ---- what is owed
  all_terms : (box : List (List ℤ)) → All (IsFixed box) (con_terms (con.Reif b r f)) → All (IsFixed box) (base_terms b)
  all_terms box all k d h = all (suc k) d (omega (arith, h))

  must_owed : (box : List (List ℤ)) → IsBox box → FitsBox box (con.Reif b r f) → IsAt box r (bit f) → CanHold b box → ConIsOwed (con.Reif b r f) box
  unfolding IsChecked
  must_owed box well_formed fits_box at can = record {
    kind = record { shown = λ s. at; refuted = λ no. absurd (can.possible no); denied = λ other. absurd (bits_apart f (sym other.low ∙ at.low)) };
    checked = λ all θ lies. ((λ holds. at_val box r (bit f) θ well_formed fits_box.kept.1 at lies), (λ is. shown_holds box θ lies b (over_base box well_formed fits_box) (can.fixed (all_terms box all))));
  }

  failed_owed : (box : List (List ℤ)) → IsBox box → FitsBox box (con.Reif b r f) → IsAt box r (bit (not f)) → HasFailed b box → ConIsOwed (con.Reif b r f) box
  unfolding IsChecked
  failed_owed box well_formed fits_box at failed = record {
    kind = record { shown = λ s. absurd (failed.possible s); refuted = λ no. at; denied = λ other. failed.owed };
    checked = λ all θ lies. (
      (λ holds. absurd (refuted_fails box θ lies b (over_base box well_formed fits_box) (failed.fixed (all_terms box all)) holds)),
      (λ is. absurd (bits_apart f (sym (at_val box r (bit (not f)) θ well_formed fits_box.kept.1 at lies) ∙ is))),
    );
  }

  unknown_owed : (box : List (List ℤ)) → IsBox box → FitsBox box (con.Reif b r f) → (IsAt box r (bit (not f)) → ⊥) → IsJudged box b verdict.Unknown → ConIsOwed (con.Reif b r f) box
  unfolding IsJudged IsChecked
  unknown_owed box well_formed fits_box apart judged = record {
    kind = record { shown = λ s. absurd (judged.0 s); refuted = λ no. absurd (judged.1 no); denied = λ other. absurd (apart other) };
    checked = λ all. absurd (judged.1 (fixed_refuted box b (over_base box well_formed fits_box) (all_terms box all) judged.0));
  }

  -- ---- the steps, where the term says that the base holds
  pub must_none : (s : Stored) → IsBox s.box → FitsBox s.box (con.Reif b r f) → IsAt s.box r (bit f) → IsTested s.box b true → Step (ConIsOwed (con.Reif b r f)) (Holds (con.Reif b r f)) s s passed.Empty
  unfolding IsTested
  must_none s well_formed fits_box at refuted = step_none (ConIsOwed (con.Reif b r f)) (Holds (con.Reif b r f)) s well_formed
      (λ θ lies holds. refuted_fails s.box θ lies b (over_base s.box well_formed fits_box) refuted (holds.1 (at_val s.box r (bit f) θ well_formed fits_box.kept.1 at lies)))

  pub must_idle : (s : Stored) → IsBox s.box → FitsBox s.box (con.Reif b r f) → IsAt s.box r (bit f) → IsTested s.box b false → Step (ConIsOwed (con.Reif b r f)) (Holds (con.Reif b r f)) s s passed.Done
  unfolding IsTested
  must_idle s well_formed fits_box at can = step_idle (ConIsOwed (con.Reif b r f)) (Holds (con.Reif b r f)) s well_formed (must_owed s.box well_formed fits_box at can)

  -- ---- where it says that the base fails
  pub failed_step : (old new : Stored) (result : Passed) → IsBox old.box → FitsBox old.box (con.Reif b r f) → IsAt old.box r (bit (not f)) → Step (HasFailed b) (Fails b) old new result → Step (ConIsOwed (con.Reif b r f)) (Holds (con.Reif b r f)) old new result
  unfolding Fails
  failed_step old new result well_formed fits_box at step = step_for (HasFailed b) (ConIsOwed (con.Reif b r f)) (Fails b) (Holds (con.Reif b r f)) old new result
      (λ same failed. failed_owed new.box step.well_formed (subst (λ box. FitsBox box (con.Reif b r f)) (sym same) fits_box) (subst (λ box. IsAt box r (bit (not f))) (sym same) at) failed)
      (λ θ lies holds fine. bits_apart f (sym (at_val old.box r (bit (not f)) θ well_formed fits_box.kept.1 at lies) ∙ holds.0 fine)) step

  -- ---- where it is open
  pub shown_fixes : (old new : Stored) (result : Passed) → IsBox old.box → FitsBox old.box (con.Reif b r f) → (IsAt old.box r (bit f) → ⊥) → IsJudged old.box b verdict.Shown → Step (ValueIs r (bit f)) (Gives (Is (bit f)) r) old new result → Step (ConIsOwed (con.Reif b r f)) (Holds (con.Reif b r f)) old new result
  unfolding IsJudged ValueIs Gives
  shown_fixes old new result well_formed fits_box apart judged step = step_for (ValueIs r (bit f)) (ConIsOwed (con.Reif b r f)) (Gives (Is (bit f)) r) (Holds (con.Reif b r f)) old new result
      (λ same at. absurd (apart (subst (λ box. IsAt box r (bit f)) same at)))
      (λ θ lies holds. holds.0 (shown_holds old.box θ lies b (over_base old.box well_formed fits_box) judged)) step

  pub refuted_fixes : (old new : Stored) (result : Passed) → IsBox old.box → FitsBox old.box (con.Reif b r f) → (IsAt old.box r (bit (not f)) → ⊥) → IsJudged old.box b verdict.Refuted → Step (ValueIs r (bit (not f))) (Gives (Is (bit (not f))) r) old new result → Step (ConIsOwed (con.Reif b r f)) (Holds (con.Reif b r f)) old new result
  unfolding IsJudged ValueIs Gives
  refuted_fixes old new result well_formed fits_box apart judged step = step_for (ValueIs r (bit (not f))) (ConIsOwed (con.Reif b r f)) (Gives (Is (bit (not f))) r) (Holds (con.Reif b r f)) old new result
      (λ same at. absurd (apart (subst (λ box. IsAt box r (bit (not f))) same at)))
      (λ θ lies holds. other_bit f (val r θ) (val_bit old.box r θ fits_box.booleans.1 fits_box.kept.1 lies) (λ e. refuted_fails old.box θ lies b (over_base old.box well_formed fits_box) judged (holds.1 e))) step

  pub unknown_idle : (s : Stored) → IsBox s.box → FitsBox s.box (con.Reif b r f) → (IsAt s.box r (bit (not f)) → ⊥) → IsJudged s.box b verdict.Unknown → Step (ConIsOwed (con.Reif b r f)) (Holds (con.Reif b r f)) s s passed.Done
  unknown_idle s well_formed fits_box apart judged = step_idle (ConIsOwed (con.Reif b r f)) (Holds (con.Reif b r f)) s well_formed (unknown_owed s.box well_formed fits_box apart judged)
