-- What a pass over a division owes.
use Rattle.std.proofs.Common.{◌≡◌, ℕ, List, length, sym, subst, ap, ◌∙◌, arith, pos}
use Rattle.std.specs.Prelude.{ℤ}
use Rattle.fzn_model.specs.declared.term.Term.{Term}
use Rattle.fzn_model.specs.declared.con.Con.{Con}
use Rattle.fzn_model.specs.Limits.{ConInLimits, TermIn, of_call}
use Rattle.fzn_model.specs.Meaning.{val, Holds}
use Rattle.fzn_model.specs.Boxes.{IsBox, InBox}
use Rattle.dom_store.specs.declared.pass.Passed.{Passed}
use Rattle.dom_store.specs.declared.pass.Passed.TheVariants as passed
use Rattle.dom_store.specs.Stores.{Stored}
use Rattle.fzn_model.specs.Bounds.{IsFixed}
use Rattle.dom_store.specs.Strength.{IsOwed, ResultIsFixed, IsChecked}
use Rattle.fzn_model.proofs.Terms.{at_val}
use Rattle.arith_prop.specs.declared.division.Part.{Part}
use Rattle.arith_prop.specs.declared.division.Part.TheVariants as part
use Rattle.arith_prop.specs.Division.{divided, AreOnly, AreLoose}
use Rattle.arith_prop.specs.Parts.{division_con}
use Rattle.dom_store.specs.Steps.{NarrowsTerm, Is, ValueIs}
use Rattle.arith_prop.specs.Passes.{IsPass}
use Rattle.dom_store.proofs.Stepping.{narrowed, step_as, step_idle, step_none}
use Rattle.arith_prop.proofs.Passing.{pass_one, pass_end}

abbrev AreIn : ℕ → Term → Term → Term → Type 0
AreIn n a b r = TermIn n a × TermIn n b × TermIn n r

-- the divisor isn't 0, and the result is what the division gives
abbrev Divides : Part → Term → Term → Term → List ℤ → Type 0
Divides p a b r θ = (val b θ ≡ pos 0 → ⊥) × (val r θ ≡ divided p (val a θ) (val b θ))

abbrev AllFixed : List (List ℤ) → Term → Term → Term → Type 0
AllFixed box a b r = IsFixed box a × IsFixed box b × IsFixed box r

-- ---- what is apart by kind
pub terms_in : (p : Part) (n : ℕ) (a b r : Term) → ConInLimits of_call n (division_con p a b r) → AreIn n a b r
terms_in part.Quotient n a b r kept = kept
terms_in part.Remainder n a b r kept = kept

in_terms : (p : Part) (n : ℕ) (a b r : Term) → AreIn n a b r → ConInLimits of_call n (division_con p a b r)
in_terms part.Quotient n a b r inside = inside
in_terms part.Remainder n a b r inside = inside

divides : (p : Part) (a b r : Term) (θ : List ℤ) → Holds (division_con p a b r) θ → Divides p a b r θ
divides part.Quotient a b r θ holds = holds
divides part.Remainder a b r θ holds = holds

owed_by : (p : Part) (a b r : Term) (box : List (List ℤ)) → ResultIsFixed box a b r → (AllFixed box a b r → (θ : List ℤ) → InBox box θ → Divides p a b r θ) → IsOwed box (division_con p a b r)
unfolding IsChecked
owed_by part.Quotient a b r box kind checked = record { kind = kind; checked = λ all θ lies. checked (all 0 a (omega arith), all 1 b (omega arith), all 2 r (omega arith)) θ lies }
owed_by part.Remainder a b r box kind checked = record { kind = kind; checked = λ all θ lies. checked (all 0 a (omega arith), all 1 b (omega arith), all 2 r (omega arith)) θ lies }

-- ---- what is the same
module _ (p : Part) (a b r : Term) where
  abbrev Division : Con
  Division = division_con p a b r

  pub loose_passes : (s : Stored) → AreIn (length s.box) a b r → IsBox s.box → AreLoose s.box a b → IsPass Division s s passed.Done
  unfolding AreLoose ResultIsFixed
  loose_passes s inside well_formed loose =
      pass_one (λ box. AreLoose box a b) Division s s passed.Done (in_terms p (length s.box) a b r inside)
      (λ well_formed kept loose. owed_by p a b r s.box (λ fa fb. absurd (loose fa fb)) (λ all θ lies. absurd (loose all.0 all.1)))
      (step_idle (λ box. AreLoose box a b) (Holds Division) s well_formed loose)

  pub zero_passes : (s : Stored) (args : ℤ × ℤ) → AreIn (length s.box) a b r → IsBox s.box → AreOnly s.box a b args → args.1 ≡ pos 0 → IsPass Division s s passed.Empty
  zero_passes s args inside well_formed only zero =
      pass_end (λ box. AreOnly box a b args) Division s s
      (step_none (λ box. AreOnly box a b args) (Holds Division) s well_formed (λ θ lies holds. (divides p a b r θ holds).0 (at_val s.box b args.1 θ well_formed inside.1 only.divisor.at lies ∙ zero)))

  result_is : (box : List (List ℤ)) (args : ℤ × ℤ) (q : ℤ) (θ : List ℤ) → AreIn (length box) a b r → IsBox box → AreOnly box a b args → q ≡ divided p args.0 args.1 → InBox box θ → divided p (val a θ) (val b θ) ≡ q
  result_is box args q θ inside well_formed only is lies =
      let x : val a θ ≡ args.0 = at_val box a args.0 θ well_formed inside.0 only.dividend.at lies in
      let y : val b θ ≡ args.1 = at_val box b args.1 θ well_formed inside.1 only.divisor.at lies in
      ap (λ v. divided p v (val b θ)) x ∙ ap (divided p args.0) y ∙ sym is

  fixed_owed : (box : List (List ℤ)) (args : ℤ × ℤ) (q : ℤ) → (args.1 ≡ pos 0 → ⊥) → q ≡ divided p args.0 args.1 → IsBox box → AreIn (length box) a b r → AreOnly box a b args × ValueIs r q box → IsOwed box Division
  unfolding ValueIs ResultIsFixed
  fixed_owed box args q some is well_formed inside (only, at) =
      owed_by p a b r box (λ fa fb. at.low ∙ sym at.high) (λ all θ lies.
      let y : val b θ ≡ args.1 = at_val box b args.1 θ well_formed inside.1 only.divisor.at lies in
      let z : val r θ ≡ q = at_val box r q θ well_formed inside.2 at lies in
      ((λ zero. some (sym y ∙ zero)), z ∙ sym (result_is box args q θ inside well_formed only is lies)))

  pub fixed_passes : (old new : Stored) (args : ℤ × ℤ) (q : ℤ) (result : Passed) → AreIn (length old.box) a b r → IsBox old.box → AreOnly old.box a b args → (args.1 ≡ pos 0 → ⊥) → q ≡ divided p args.0 args.1
      → NarrowsTerm (Is q) (ValueIs r q) r old new result → IsPass Division old new result
  fixed_passes old new args q result inside well_formed only some is moves =
      pass_one (λ box. AreOnly box a b args × ValueIs r q box) Division old new result (in_terms p (length old.box) a b r inside)
      (λ well_formed kept both. fixed_owed new.box args q some is well_formed (terms_in p (length new.box) a b r kept) both)
      (step_as (ValueIs r q) (λ box. AreOnly box a b args × ValueIs r q box) (Holds Division) old new result
      (λ same at. (subst (λ box. AreOnly box a b args) (sym same) only, at))
      (narrowed (Holds Division) moves (λ θ lies holds. (divides p a b r θ holds).1 ∙ result_is old.box args q θ inside well_formed only is lies)))
