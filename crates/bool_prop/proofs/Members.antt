-- A term that lies in a set: its steps, and what they reach.
use Rattle.std.proofs.Common.{◌≡◌, ◌⊎◌, List, length, sym, subst, ap, ◌∙◌, arith, inl, inr}
use Rattle.std.specs.Prelude.{ℤ, pos, ◌+ℤ◌, ◌≤ℤ◌, ◌<ℤ◌}
use Rattle.std.proofs.lemmas.Int.{ints}
use Rattle.fzn_model.specs.declared.member.Member.{Member}
use Rattle.fzn_model.specs.Sets.{IsIn}
use Rattle.fzn_model.specs.Meaning.{val, Holds}
use Rattle.fzn_model.specs.Limits.{TermIn}
use Rattle.fzn_model.specs.Boxes.{IsBox}
use Rattle.dom_store.specs.declared.pass.Passed.{Passed}
use Rattle.dom_store.specs.declared.pass.Passed.TheVariants as passed
use Rattle.dom_store.specs.Stores.{Stored}
use Rattle.fzn_model.specs.Bounds.{term_low, term_high, TermHas, IsLookedAt, IsWide}
use Rattle.dom_store.specs.Strength.{MemberIsStrong, IsChecked, IsOwed, ConIsOwed}
use Rattle.fzn_model.proofs.Terms.{has_between, fixed_val}
use Rattle.dom_store.specs.Steps.{Step, NarrowsTerm, Spares, IsNot, IsGone}
use Rattle.dom_store.specs.declared.extreme.Extreme.{Extreme}
use Rattle.dom_store.specs.declared.extreme.Extreme.TheVariants as extreme
use Rattle.dom_store.specs.Extremes.{bound_of, Bounds, BoundsTerm}
use Rattle.dom_store.proofs.Limiting.{bounds_both, bound_value, values_bound}
use Rattle.dom_store.proofs.Stepping.{narrowed, still_in, step_idle, step_none, step_then, step_both, step_as, step_end_after}
use Rattle.bool_prop.specs.Parts.{member_con}
use Rattle.bool_prop.specs.Neighbours.{IsNear, NoneNear}
use Rattle.bool_prop.specs.Inside.{BoundIsIn, ValueIsIn, ValuesAreIn, EachIsIn}
use Rattle.dom_store.proofs.Comparing.{below_or_from}

abbrev Box : Type 0
Box = List (List ℤ)

-- ---- a bound
near_spared : (e : Extreme) (m : Member) (box : Box) (number near : ℤ) → IsBox box → TermIn (length box) m.x → number ≡ bound_of e m.x box → IsNear e m.set number near → Spares (Bounds e near) (Holds (member_con m)) m.x box
near_spared e m box number near well_formed inside is next θ lies holds =
    next.nearest (val m.x θ) holds (subst (λ z. Bounds e z (val m.x θ)) (sym is) (bound_value e box m.x θ well_formed inside lies))

pub bound_cut : (e : Extreme) (m : Member) (old new : Stored) (number near : ℤ) (result : Passed) → IsBox old.box → TermIn (length old.box) m.x → number ≡ bound_of e m.x old.box → IsNear e m.set number near
    → NarrowsTerm (Bounds e near) (BoundsTerm e near m.x) m.x old new result → Step (BoundIsIn e m) (Holds (member_con m)) old new result
unfolding BoundIsIn
bound_cut e m old new number near result well_formed inside is next narrows =
    step_as (BoundsTerm e near m.x) (BoundIsIn e m) (Holds (member_con m)) old new result (λ same there.
    let was : number ≡ bound_of e m.x new.box = is ∙ sym (ap (bound_of e m.x) same) in
    let one : near ≡ bound_of e m.x new.box = bounds_both e near (bound_of e m.x new.box) (values_bound e m.x near new.box there) (subst (λ z. Bounds e z near) was next.bounded) in
    subst (IsIn m.set) one next.has) (narrowed (Holds (member_con m)) narrows (near_spared e m old.box number near well_formed inside is next))

pub none_near : (e : Extreme) (m : Member) (s : Stored) (number : ℤ) → IsBox s.box → TermIn (length s.box) m.x → number ≡ bound_of e m.x s.box → NoneNear e m.set number → Step (BoundIsIn e m) (Holds (member_con m)) s s passed.Empty
unfolding NoneNear
none_near e m s number well_formed inside is none =
    step_none (BoundIsIn e m) (Holds (member_con m)) s well_formed (λ θ lies holds. none (val m.x θ) holds (subst (λ z. Bounds e z (val m.x θ)) (sym is) (bound_value e s.box m.x θ well_formed inside lies)))

-- ---- one value
pub value_dropped : (m : Member) (old new : Stored) (value : ℤ) (result : Passed) → (IsIn m.set value → ⊥) → NarrowsTerm (IsNot value) (IsGone m.x value) m.x old new result → Step (ValueIsIn m value) (Holds (member_con m)) old new result
unfolding ValueIsIn IsGone
value_dropped m old new value result out narrows =
    step_as (IsGone m.x value) (ValueIsIn m value) (Holds (member_con m)) old new result (λ same gone looked. absurd (gone looked))
    (narrowed (Holds (member_con m)) narrows (λ θ lies holds same. out (subst (IsIn m.set) same holds)))

pub value_unhad : (m : Member) (s : Stored) (value : ℤ) → IsBox s.box → (TermHas s.box m.x value → ⊥) → Step (ValueIsIn m value) (Holds (member_con m)) s s passed.Done
unfolding ValueIsIn
value_unhad m s value well_formed unhad = step_idle (ValueIsIn m value) (Holds (member_con m)) s well_formed (λ looked. absurd (unhad looked.has))

pub value_inside : (m : Member) (s : Stored) (value : ℤ) → IsBox s.box → IsIn m.set value → Step (ValueIsIn m value) (Holds (member_con m)) s s passed.Done
unfolding ValueIsIn
value_inside m s value well_formed has = step_idle (ValueIsIn m value) (Holds (member_con m)) s well_formed (λ looked. has)

-- ---- value after value
pub from_start : (m : Member) (low : ℤ) (s : Stored) → IsBox s.box → Step (ValuesAreIn m low low) (Holds (member_con m)) s s passed.Done
unfolding ValuesAreIn
from_start m low s well_formed = step_idle (ValuesAreIn m low low) (Holds (member_con m)) s well_formed (λ v above below looked. absurd (omega (arith, ints, above, below)))

pub from_more : (m : Member) (low value : ℤ) (a b d : Stored) → Step (ValuesAreIn m low value) (Holds (member_con m)) a b passed.Done → Step (ValueIsIn m value) (Holds (member_con m)) b d passed.Done
    → Step (ValuesAreIn m low (value +ℤ pos 1)) (Holds (member_con m)) a d passed.Done
unfolding ValuesAreIn ValueIsIn
from_more m low value a b d so_far here = step_then (ValuesAreIn m low value) (ValueIsIn m value) (ValuesAreIn m low (value +ℤ pos 1)) (Holds (member_con m)) a b d passed.Done
    (λ before now v above below looked. at_more d.box v before now above below looked (below_or_from v value)) so_far here
  where
    at_more : (box : Box) (v : ℤ) → ((w : ℤ) → low ≤ℤ w → w <ℤ value → IsLookedAt box m.x w → IsIn m.set w) → (IsLookedAt box m.x value → IsIn m.set value) → low ≤ℤ v → v <ℤ (value +ℤ pos 1) → IsLookedAt box m.x v → (v <ℤ value) ⊎ (value ≤ℤ v) → IsIn m.set v
    at_more box v before now above below looked (inl less) = before v above less looked
    at_more box v before now above below looked (inr most) =
        let same : v ≡ value = omega (arith, ints, below, most) in
        subst (IsIn m.set) (sym same) (now (subst (IsLookedAt box m.x) same looked))

-- those to an earlier end
pub from_less : (m : Member) (low value end : ℤ) (old new : Stored) → end ≤ℤ value → Step (ValuesAreIn m low value) (Holds (member_con m)) old new passed.Done → Step (ValuesAreIn m low end) (Holds (member_con m)) old new passed.Done
unfolding ValuesAreIn
from_less m low value end old new less step = step_as (ValuesAreIn m low value) (ValuesAreIn m low end) (Holds (member_con m)) old new passed.Done (λ same are v above below looked. are v above (omega (arith, ints, below, less)) looked) step

pub from_end : (m : Member) (low value end : ℤ) (a b d : Stored) → Step (ValuesAreIn m low value) (Holds (member_con m)) a b passed.Done → Step (ValueIsIn m value) (Holds (member_con m)) b d passed.Empty → Step (ValuesAreIn m low end) (Holds (member_con m)) a d passed.Empty
from_end m low value end a b d first then = step_end_after (ValuesAreIn m low value) (ValueIsIn m value) (ValuesAreIn m low end) (Holds (member_con m)) a b d first then

-- ---- all values
pub wide_left : (m : Member) (s : Stored) → IsBox s.box → IsWide s.box m.x → Step (EachIsIn m) (Holds (member_con m)) s s passed.Done
unfolding EachIsIn
wide_left m s well_formed wide = step_idle (EachIsIn m) (Holds (member_con m)) s well_formed (inl wide)

pub each_inside : (m : Member) (old new : Stored) (low high : ℤ) (result : Passed) → IsBox old.box → TermIn (length old.box) m.x → low ≡ term_low old.box m.x → high ≡ term_high old.box m.x
    → Step (ValuesAreIn m low (high +ℤ pos 1)) (Holds (member_con m)) old new result → Step (EachIsIn m) (Holds (member_con m)) old new result
unfolding EachIsIn ValuesAreIn
each_inside m old new low high result well_formed inside low_is high_is step = step_as (ValuesAreIn m low (high +ℤ pos 1)) (EachIsIn m) (Holds (member_con m)) old new result (λ same are. inr (λ v looked.
    let has : TermHas old.box m.x v = subst (λ b. TermHas b m.x v) same looked.has in
    let ends = has_between old.box m.x v well_formed inside has in
    are v (omega (arith, ints, ends.0, low_is)) (omega (arith, ints, ends.1, high_is)) looked)) step

-- ---- the whole pass
strong_from : (m : Member) (box : Box) → BoundIsIn extreme.Least m box → BoundIsIn extreme.Greatest m box → EachIsIn m box → MemberIsStrong box m
unfolding BoundIsIn bound_of EachIsIn MemberIsStrong
strong_from m box low high (inl wide) v looked = elim (looked.bound wide) [ inl is ↦ subst (IsIn m.set) (sym is) low | inr is ↦ subst (IsIn m.set) (sym is) high ]
strong_from m box low high (inr each) v looked = each v looked

checked_from : (m : Member) (box : Box) → IsBox box → TermIn (length box) m.x → BoundIsIn extreme.Least m box → IsChecked box (member_con m)
unfolding BoundIsIn bound_of IsChecked
checked_from m box well_formed inside low fixed θ lies =
    let one : val m.x θ ≡ term_low box m.x = fixed_val box m.x θ well_formed inside (fixed 0 m.x (omega arith)) lies in
    subst (IsIn m.set) (sym one) low

-- the box has what is owed
member_owed : (m : Member) (box : Box) → IsBox box → TermIn (length box) m.x → (BoundIsIn extreme.Least m box × BoundIsIn extreme.Greatest m box) × EachIsIn m box → IsOwed box (member_con m)
member_owed m box well_formed inside all = record { kind = strong_from m box all.0.0 all.0.1 all.1; checked = checked_from m box well_formed inside all.0.0 }

pub member_concludes : (m : Member) (a b d e : Stored) (result : Passed) → TermIn (length a.box) m.x → Step (BoundIsIn extreme.Least m) (Holds (member_con m)) a b passed.Done → Step (BoundIsIn extreme.Greatest m) (Holds (member_con m)) b d passed.Done → Step (EachIsIn m) (Holds (member_con m)) d e result
    → Step (ConIsOwed (member_con m)) (Holds (member_con m)) a e result
member_concludes m a b d e result inside low high each =
    let bounds = step_both (BoundIsIn extreme.Least m) (BoundIsIn extreme.Greatest m) (Holds (member_con m)) a b d passed.Done low high in
    let all = step_both (λ box. BoundIsIn extreme.Least m box × BoundIsIn extreme.Greatest m box) (EachIsIn m) (Holds (member_con m)) a d e result bounds each in
    step_as (λ box. (BoundIsIn extreme.Least m box × BoundIsIn extreme.Greatest m box) × EachIsIn m box) (ConIsOwed (member_con m)) (Holds (member_con m)) a e result
    (λ same are. member_owed m e.box all.well_formed (still_in (Holds (member_con m)) a e m.x all.prunes inside) are) all
