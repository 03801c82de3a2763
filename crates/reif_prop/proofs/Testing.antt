-- What a test of a base tells.
use Rattle.std.proofs.Common.{◌↔◌, List, length, refl}
use Rattle.std.specs.Prelude.{ℤ, Bool, true, false, IsTrue}
use Rattle.std.proofs.lemmas.Bool.{false≢true}
use Rattle.fzn_model.specs.declared.term.Term.{Term}
use Rattle.fzn_model.specs.declared.lin.Rel.{Rel}
use Rattle.fzn_model.specs.declared.clause.Clause.{Clause}
use Rattle.fzn_model.specs.declared.member.Member.{Member}
use Rattle.fzn_model.specs.declared.base.Base.{Base}
use Rattle.fzn_model.specs.declared.base.Base.TheVariants as base
use Rattle.fzn_model.specs.Sets.{AreRuns}
use Rattle.fzn_model.specs.Limits.{TermIn}
use Rattle.fzn_model.specs.Boxes.{IsBox}
use Rattle.dom_store.specs.declared.pass.Passed.{Passed}
use Rattle.dom_store.specs.declared.pass.Passed.TheVariants as passed
use Rattle.dom_store.specs.Stores.{Stored}
use Rattle.dom_store.specs.Steps.{Step}
use Rattle.dom_store.specs.Strength.{AllFalse, DeniedIsOwed, LinIsShown, LinIsRefuted}
use Rattle.dom_store.proofs.Stepping.{step_idle, step_none, step_as}
use Rattle.dom_store.specs.Bases.{member_of}
use Rattle.reif_prop.specs.Parts.{relation, IsOver}
use Rattle.reif_prop.specs.Values.{AllOutside}
use Rattle.reif_prop.specs.Failing.{Fails}
use Rattle.reif_prop.specs.Judging.{IsTested, HasFailed}
use Rattle.reif_prop.specs.Denying.{IsDenied}
use Rattle.reif_prop.proofs.Bases.{over_on}
use Rattle.reif_prop.proofs.Showing.{shown_holds, linear_can, clause_can, member_can, linear_failed, clause_failed, member_failed}

-- ---- that it can't hold
pub linear_tested : (box : List (List ℤ)) (rl : Rel) (ps : List (ℤ × Term)) (r : ℤ) (test : Bool) → IsTrue test ↔ LinIsRefuted box rl ps r → IsTested box (relation rl ps r) test
unfolding IsTested
linear_tested box rl ps r true is = is.0 refl
linear_tested box rl ps r false is = linear_can box rl ps r (λ h. false≢true (is.1 h))

pub clause_tested : (box : List (List ℤ)) (c : Clause) (test : Bool) → IsOver box (base.Clause c) → IsTrue test ↔ AllFalse box c → IsTested box (base.Clause c) test
unfolding IsTested
clause_tested box c true over is = is.0 refl
clause_tested box c false over is = clause_can box c over (λ h. false≢true (is.1 h))

pub member_tested : (box : List (List ℤ)) (x : Term) (set : List (ℤ × ℤ)) (test : Bool) → IsBox box → TermIn (length box) x → AreRuns set → IsTrue test ↔ AllOutside box x set → IsTested box (base.Member (member_of x set)) test
unfolding IsTested AllOutside
member_tested box x set true well_formed inside runs is = is.0 refl
member_tested box x set false well_formed inside runs is = member_can box x set well_formed inside runs (λ h. false≢true (is.1 h))

-- ---- that it has failed
pub linear_none : (rl : Rel) (ps : List (ℤ × Term)) (r : ℤ) (s : Stored) → IsOver s.box (relation rl ps r) → LinIsShown s.box rl ps r → Step (HasFailed (relation rl ps r)) (Fails (relation rl ps r)) s s passed.Empty
unfolding Fails
linear_none rl ps r s over shown = step_none (HasFailed (relation rl ps r)) (Fails (relation rl ps r)) s over.well_formed (λ θ lies fails. fails (shown_holds s.box θ lies (relation rl ps r) over shown))

pub linear_idle : (rl : Rel) (ps : List (ℤ × Term)) (r : ℤ) (s : Stored) → IsOver s.box (relation rl ps r) → (LinIsShown s.box rl ps r → ⊥) → Step (HasFailed (relation rl ps r)) (Fails (relation rl ps r)) s s passed.Done
linear_idle rl ps r s over not_shown = step_idle (HasFailed (relation rl ps r)) (Fails (relation rl ps r)) s over.well_formed (linear_failed s.box rl ps r over not_shown)

failed_step : (b : Base) (old new : Stored) (result : Passed) → (IsOver new.box b → DeniedIsOwed new.box b → HasFailed b new.box) → IsOver old.box b → Step (IsDenied b) (Fails b) old new result → Step (HasFailed b) (Fails b) old new result
unfolding IsDenied
failed_step b old new result failed over step =
    step_as (IsDenied b) (HasFailed b) (Fails b) old new result (λ same denied. failed (over_on (IsDenied b) (Fails b) old new result b step over) denied) step

pub clause_step : (c : Clause) (old new : Stored) (result : Passed) → IsOver old.box (base.Clause c) → Step (IsDenied (base.Clause c)) (Fails (base.Clause c)) old new result → Step (HasFailed (base.Clause c)) (Fails (base.Clause c)) old new result
clause_step c old new result over step = failed_step (base.Clause c) old new result (clause_failed new.box c) over step

pub member_step : (m : Member) (old new : Stored) (result : Passed) → IsOver old.box (base.Member m) → Step (IsDenied (base.Member m)) (Fails (base.Member m)) old new result → Step (HasFailed (base.Member m)) (Fails (base.Member m)) old new result
member_step m old new result over step = failed_step (base.Member m) old new result (member_failed new.box m) over step
