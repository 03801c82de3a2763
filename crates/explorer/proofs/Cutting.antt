-- One side of a decision, in a box.
use Rattle.std.proofs.Common.{◌≡◌, ℕ, ◌<◌, Bool, true, false, cond, List, length, refl, sym, subst, ◌∙◌, arith, ℤ, pos, ◌≤ℤ◌, ◌↔◌}
use Rattle.std.specs.Prelude.{not, int_le, ◌+ℤ◌}
use Rattle.std.proofs.lemmas.Int.{ints, by_lt_z}
use Rattle.std.proofs.lemmas.Bool.{false≢true}
use Rattle.fzn_model.specs.declared.term.Term.TheVariants as term
use Rattle.fzn_model.specs.Boxes.{InBox}
use Rattle.fzn_model.specs.Bounds.{term_low, term_high}
use Rattle.fzn_model.specs.Meaning.{val}
use Rattle.fzn_model.proofs.Terms.{val_low, val_high}
use Rattle.dom_store.specs.Stores.{Stored}
use Rattle.dom_store.specs.Steps.{NarrowsTerm, Reaches, Gives, IsAtLeast, IsAtMost, LowIs, HighIs}
use Rattle.dom_store.specs.declared.pass.Passed.{Passed}
use Rattle.dom_store.specs.declared.pass.Passed.TheVariants as passed
use Rattle.dom_store.proofs.Laws.{in_before}
use Rattle.dom_store.proofs.Cutting.{tests_most}
use Rattle.search_core.specs.declared.decision.Decision.{Decision}
use Rattle.search_core.specs.Paths.{allows}
use Rattle.explorer.specs.Frames.{HasSide}
use Rattle.explorer.specs.Walking.{CutsTo, NoneObeys}

-- ---- which numbers a decision allows
at_up : (up t : Bool) → up ≡ true → cond up (not t) t ≡ not t
at_up true t h = refl
at_up false t h = absurd (false≢true h)

at_down : (up t : Bool) → up ≡ false → cond up (not t) t ≡ t
at_down false t h = refl
at_down true t h = absurd (false≢true (sym h))

above_from : (t : Bool) (z at : ℤ) → (z ≤ℤ at → t ≡ true) → not t ≡ true → (at +ℤ pos 1) ≤ℤ z
above_from true z at back h = absurd (false≢true h)
above_from false z at back h = by_lt_z at z (λ less. omega (arith, ints)) (λ most. absurd (false≢true (back most)))

above_to : (t : Bool) (z at : ℤ) → (t ≡ true → z ≤ℤ at) → (at +ℤ pos 1) ≤ℤ z → not t ≡ true
above_to true z at out h = let most : z ≤ℤ at = out refl in absurd (omega (arith, ints))
above_to false z at out h = refl

pub allows_up : (d : Decision) → d.up ≡ true → (z : ℤ) → (allows d z ≡ true) ↔ IsAtLeast (d.at +ℤ pos 1) z
allows_up d up z =
    let is : allows d z ≡ not (int_le z d.at) = at_up d.up (int_le z d.at) up in (
      (λ h. above_from (int_le z d.at) z d.at (tests_most d.at z).1 (sym is ∙ h)),
      (λ h. is ∙ above_to (int_le z d.at) z d.at (tests_most d.at z).0 h),
    )

pub allows_down : (d : Decision) → d.up ≡ false → (z : ℤ) → (allows d z ≡ true) ↔ IsAtMost d.at z
allows_down d down z =
    let is : allows d z ≡ int_le z d.at = at_down d.up (int_le z d.at) down in (
      (λ h. (tests_most d.at z).0 (sym is ∙ h)),
      (λ h. is ∙ (tests_most d.at z).1 h),
    )

-- ---- a narrowing to these numbers
cuts_to : (d : Decision) (R : ℤ → Type 0) (P : List (List ℤ) → Type 0) (old new : Stored) (result : Passed)
    → ((z : ℤ) → (allows d z ≡ true) ↔ R z)
    → NarrowsTerm R P (term.Var d.var) old new result
    → ((θ : List ℤ) → InBox new.box θ → R (val (term.Var d.var) θ))
    → CutsTo d old.box new.box
unfolding Gives
cuts_to d R P old new result means narrows only = record {
  only = λ θ lies. (in_before (Gives R (term.Var d.var)) old.box new.box θ narrows.step.prunes.loses lies, (means (val (term.Var d.var) θ)).1 (only θ lies));
  all = λ θ lies o. narrows.step.prunes.loses.kept θ lies ((means (val (term.Var d.var) θ)).0 o);
  within = narrows.step.prunes.loses.within;
  count = narrows.step.prunes.loses.count;
  domains = narrows.step.well_formed;
}

none_obeys : (d : Decision) (R : ℤ → Type 0) (P : List (List ℤ) → Type 0) (old new : Stored) (result : Passed)
    → ((z : ℤ) → (allows d z ≡ true) ↔ R z)
    → NarrowsTerm R P (term.Var d.var) old new result → result ≡ passed.Empty
    → NoneObeys d old.box
unfolding Gives Reaches NoneObeys
none_obeys d R P old new result means narrows empty =
    let none : Reaches P (Gives R (term.Var d.var)) old.box new.box passed.Empty = subst (λ (r : Passed). Reaches P (Gives R (term.Var d.var)) old.box new.box r) empty narrows.step.reaches in
    λ θ lies o. none θ lies ((means (val (term.Var d.var) θ)).0 o)

in_new : (R : ℤ → Type 0) (P : List (List ℤ) → Type 0) (k : ℕ) (old new : Stored) (result : Passed) → k < length old.box → NarrowsTerm R P (term.Var k) old new result → k < length new.box
in_new R P k old new result inside narrows = omega (arith, narrows.step.prunes.loses.count)

pub cut_up : (d : Decision) (low : ℤ) (old new : Stored) (result : Passed) → d.up ≡ true → low ≡ d.at +ℤ pos 1 → d.var < length old.box
    → NarrowsTerm (IsAtLeast low) (LowIs (term.Var d.var) low) (term.Var d.var) old new result
    → LowIs (term.Var d.var) low new.box → CutsTo d old.box new.box
unfolding LowIs
cut_up d low old new result up is inside narrows reached =
    cuts_to d (IsAtLeast low) (LowIs (term.Var d.var) low) old new result
    (λ z. rw is (allows_up d up z))
    narrows
    (λ θ lies.
    let least : term_low new.box (term.Var d.var) ≤ℤ val (term.Var d.var) θ = val_low new.box (term.Var d.var) θ narrows.step.well_formed (in_new (IsAtLeast low) (LowIs (term.Var d.var) low) d.var old new result inside narrows) lies in
    let here : low ≤ℤ term_low new.box (term.Var d.var) = reached in
    omega (arith, ints))

pub cut_down : (d : Decision) (high : ℤ) (old new : Stored) (result : Passed) → d.up ≡ false → high ≡ d.at → d.var < length old.box
    → NarrowsTerm (IsAtMost high) (HighIs (term.Var d.var) high) (term.Var d.var) old new result
    → HighIs (term.Var d.var) high new.box → CutsTo d old.box new.box
unfolding HighIs
cut_down d high old new result down is inside narrows reached =
    cuts_to d (IsAtMost high) (HighIs (term.Var d.var) high) old new result
    (λ z. rw is (allows_down d down z))
    narrows
    (λ θ lies.
    let most : val (term.Var d.var) θ ≤ℤ term_high new.box (term.Var d.var) = val_high new.box (term.Var d.var) θ narrows.step.well_formed (in_new (IsAtMost high) (HighIs (term.Var d.var) high) d.var old new result inside narrows) lies in
    let here : term_high new.box (term.Var d.var) ≤ℤ high = reached in
    omega (arith, ints))

pub none_up : (d : Decision) (low : ℤ) (old new : Stored) (result : Passed) → d.up ≡ true → low ≡ d.at +ℤ pos 1
    → NarrowsTerm (IsAtLeast low) (LowIs (term.Var d.var) low) (term.Var d.var) old new result
    → result ≡ passed.Empty → NoneObeys d old.box
none_up d low old new result up is narrows empty = none_obeys d (IsAtLeast low) (LowIs (term.Var d.var) low) old new result (λ z. rw is (allows_up d up z)) narrows empty

pub none_down : (d : Decision) (high : ℤ) (old new : Stored) (result : Passed) → d.up ≡ false → high ≡ d.at
    → NarrowsTerm (IsAtMost high) (HighIs (term.Var d.var) high) (term.Var d.var) old new result
    → result ≡ passed.Empty → NoneObeys d old.box
none_down d high old new result down is narrows empty = none_obeys d (IsAtMost high) (HighIs (term.Var d.var) high) old new result (λ z. rw is (allows_down d down z)) narrows empty

-- ---- a side that has an assignment isn't cut away
pub some_obeys : (d : Decision) (box : List (List ℤ)) → HasSide box d → NoneObeys d box → ⊥
unfolding NoneObeys
some_obeys d box has none = none has.some.0 has.some.1 has.some.2
