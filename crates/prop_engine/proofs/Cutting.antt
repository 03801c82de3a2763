-- The goal's cost, kept below a bound.
use Rattle.std.proofs.Common.{◌≡◌, List, length, ℤ, pos, neg_ℤ, ◌-ℤ◌, ◌≤ℤ◌, ◌<ℤ◌, arith}
use Rattle.std.proofs.lemmas.Int.{ints}
use Rattle.fzn_model.specs.declared.term.Term.{Term}
use Rattle.fzn_model.specs.declared.goal.Goal.TheVariants.{Satisfy, Minimise, Maximise}
use Rattle.fzn_model.specs.Meaning.{val}
use Rattle.fzn_model.specs.Limits.{IsValue, TermIn}
use Rattle.fzn_model.specs.Boxes.{IsBox, InBox}
use Rattle.dom_store.specs.Stores.{Stored}
use Rattle.fzn_model.specs.Bounds.{term_low, term_high}
use Rattle.dom_store.specs.Narrowing.{Prunes, HasNone}
use Rattle.dom_store.specs.Steps.{Reaches, Step, NarrowsTerm, IsAtLeast, IsAtMost, LowIs, HighIs}
use Rattle.fzn_model.proofs.Terms.{val_has, has_value, has_low, has_high}
use Rattle.dom_store.proofs.Laws.{prunes_refl}
use Rattle.dom_store.proofs.Stepping.{narrowed, narrows_in}
use Rattle.dom_store.specs.declared.pass.Passed.{Passed}
use Rattle.dom_store.specs.declared.pass.Passed.TheVariants as passed
use Rattle.prop_engine.specs.Goals.{IsBelow, CutMeans, SameBound}

pub satisfy_prunes : (below : ℤ) (s : Stored) → Prunes (IsBelow Satisfy below) s s
satisfy_prunes below s = prunes_refl (IsBelow Satisfy below) s

pub satisfy_done : (below : ℤ) (old new : List (List ℤ)) → pos 0 <ℤ below → CutMeans Satisfy below old new passed.Done
unfolding CutMeans
satisfy_done below old new h = h

pub satisfy_none : (below : ℤ) (old new : List (List ℤ)) → below ≤ℤ pos 0 → CutMeans Satisfy below old new passed.Empty
unfolding CutMeans IsBelow
satisfy_none below old new h θ lies p = omega (arith, ints, h, p)

-- a step that answers so leaves no assignment
none_from : (P : List (List ℤ) → Type 0) (Q : List ℤ → Type 0) (old new : Stored) → Step P Q old new passed.Empty → HasNone Q old.box
unfolding Reaches
none_from P Q old new step = step.reaches

neg_value : (z : ℤ) → IsValue z → IsValue (neg_ℤ z)
neg_value z h = omega (arith, ints, h)

-- the value of the goal's term is one of the language
value_at : (box : List (List ℤ)) (t : Term) (θ : List ℤ) → IsBox box → TermIn (length box) t → InBox box θ → IsValue (val t θ)
value_at box t θ well_formed inside lies = has_value box t _ well_formed inside (val_has box t θ inside lies)

spared_up : (below near high : ℤ) (box : List (List ℤ)) (t : Term) → SameBound below near → high ≡ near -ℤ pos 1 → IsBox box → TermIn (length box) t → (θ : List ℤ) → InBox box θ → IsBelow (Minimise t) below θ → val t θ ≤ℤ high
unfolding SameBound IsBelow
spared_up below near high box t same is well_formed inside θ lies p =
    let less : val t θ <ℤ near = (same (val t θ) (value_at box t θ well_formed inside lies)).0 p in
    omega (arith, ints, less, is)

minimise_step : (below near high : ℤ) (t : Term) (old new : Stored) (result : Passed) → SameBound below near → high ≡ near -ℤ pos 1 → IsBox old.box → TermIn (length old.box) t → NarrowsTerm (IsAtMost high) (HighIs t high) t old new result → Step (HighIs t high) (IsBelow (Minimise t) below) old new result
minimise_step below near high t old new result same is well_formed inside narrows = narrowed (IsBelow (Minimise t) below) narrows (spared_up below near high old.box t same is well_formed inside)

pub minimise_prunes : (below near high : ℤ) (t : Term) (old new : Stored) (result : Passed) → SameBound below near → high ≡ near -ℤ pos 1 → IsBox old.box → TermIn (length old.box) t → NarrowsTerm (IsAtMost high) (HighIs t high) t old new result → Prunes (IsBelow (Minimise t) below) old new
minimise_prunes below near high t old new result same is well_formed inside narrows = (minimise_step below near high t old new result same is well_formed inside narrows).prunes

high_below : (below near high : ℤ) (box : List (List ℤ)) (t : Term) → SameBound below near → high ≡ near -ℤ pos 1 → IsBox box → TermIn (length box) t → term_high box t ≤ℤ high → term_high box t <ℤ below
unfolding SameBound
high_below below near high box t same is well_formed inside reached = (same (term_high box t) (has_value box t _ well_formed inside (has_high box t well_formed inside))).1 (omega (arith, ints, is, reached))

pub minimise_means : (below near high : ℤ) (t : Term) (old new : Stored) (result : Passed) → SameBound below near → high ≡ near -ℤ pos 1 → IsBox old.box → TermIn (length old.box) t → NarrowsTerm (IsAtMost high) (HighIs t high) t old new result → ((result ≡ passed.Empty → ⊥) → HighIs t high new.box) → CutMeans (Minimise t) below old.box new.box result
unfolding CutMeans HighIs
minimise_means below near high t old new passed.Done same is well_formed inside narrows reached = high_below below near high new.box t same is narrows.step.well_formed (narrows_in (IsAtMost high) (HighIs t high) t old new passed.Done narrows inside) (reached (λ e. absurd (cc)))
minimise_means below near high t old new passed.Empty same is well_formed inside narrows reached = none_from (HighIs t high) (IsBelow (Minimise t) below) old new (minimise_step below near high t old new passed.Empty same is well_formed inside narrows)

spared_down : (below near low : ℤ) (box : List (List ℤ)) (t : Term) → SameBound below near → low ≡ pos 1 -ℤ near → IsBox box → TermIn (length box) t → (θ : List ℤ) → InBox box θ → IsBelow (Maximise t) below θ → low ≤ℤ val t θ
unfolding SameBound IsBelow
spared_down below near low box t same is well_formed inside θ lies p =
    let less : neg_ℤ (val t θ) <ℤ near = (same (neg_ℤ (val t θ)) (neg_value (val t θ) (value_at box t θ well_formed inside lies))).0 p in
    omega (arith, ints, less, is)

maximise_step : (below near low : ℤ) (t : Term) (old new : Stored) (result : Passed) → SameBound below near → low ≡ pos 1 -ℤ near → IsBox old.box → TermIn (length old.box) t → NarrowsTerm (IsAtLeast low) (LowIs t low) t old new result → Step (LowIs t low) (IsBelow (Maximise t) below) old new result
maximise_step below near low t old new result same is well_formed inside narrows = narrowed (IsBelow (Maximise t) below) narrows (spared_down below near low old.box t same is well_formed inside)

pub maximise_prunes : (below near low : ℤ) (t : Term) (old new : Stored) (result : Passed) → SameBound below near → low ≡ pos 1 -ℤ near → IsBox old.box → TermIn (length old.box) t → NarrowsTerm (IsAtLeast low) (LowIs t low) t old new result → Prunes (IsBelow (Maximise t) below) old new
maximise_prunes below near low t old new result same is well_formed inside narrows = (maximise_step below near low t old new result same is well_formed inside narrows).prunes

low_below : (below near low : ℤ) (box : List (List ℤ)) (t : Term) → SameBound below near → low ≡ pos 1 -ℤ near → IsBox box → TermIn (length box) t → low ≤ℤ term_low box t → neg_ℤ (term_low box t) <ℤ below
unfolding SameBound
low_below below near low box t same is well_formed inside reached = (same (neg_ℤ (term_low box t)) (neg_value (term_low box t) (has_value box t _ well_formed inside (has_low box t well_formed inside)))).1 (omega (arith, ints, is, reached))

pub maximise_means : (below near low : ℤ) (t : Term) (old new : Stored) (result : Passed) → SameBound below near → low ≡ pos 1 -ℤ near → IsBox old.box → TermIn (length old.box) t → NarrowsTerm (IsAtLeast low) (LowIs t low) t old new result → ((result ≡ passed.Empty → ⊥) → LowIs t low new.box) → CutMeans (Maximise t) below old.box new.box result
unfolding CutMeans LowIs
maximise_means below near low t old new passed.Done same is well_formed inside narrows reached = low_below below near low new.box t same is narrows.step.well_formed (narrows_in (IsAtLeast low) (LowIs t low) t old new passed.Done narrows inside) (reached (λ e. absurd (cc)))
maximise_means below near low t old new passed.Empty same is well_formed inside narrows reached = none_from (LowIs t low) (IsBelow (Maximise t) below) old new (maximise_step below near low t old new passed.Empty same is well_formed inside narrows)
