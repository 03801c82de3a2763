-- A term that has to take one of several numbers.
use Rattle.std.proofs.Common.{◌≡◌, ℕ, ◌+◌, ◌<◌, ◌≤◌, List, length, refl, sym, subst, arith, below_more, inl, inr}
use Rattle.std.specs.Prelude.{ℤ, pos, negsuc, ◌+ℤ◌, ◌-ℤ◌, ◌≤ℤ◌, ◌<ℤ◌, slice_index_or, Contains}
use Rattle.std.proofs.lemmas.Int.{ints}
use Rattle.std.proofs.lemmas.List.{get_or_default}
use Rattle.std.proofs.lemmas.List.Elements.{Contains-get_or}
use Rattle.fzn_model.specs.declared.term.Term.{Term}
use Rattle.fzn_model.specs.declared.term.Term.TheVariants as term
use Rattle.fzn_model.specs.Limits.{TermIn}
use Rattle.fzn_model.specs.Boxes.{IsBox}
use Rattle.dom_store.specs.declared.pass.Passed.{Passed}
use Rattle.dom_store.specs.declared.pass.Passed.TheVariants as passed
use Rattle.dom_store.specs.Stores.{Stored}
use Rattle.fzn_model.specs.Bounds.{term_low, term_high, TermHas, IsLookedAt, IsWide}
use Rattle.dom_store.specs.Narrowing.{Prunes}
use Rattle.fzn_model.proofs.Terms.{has_between}
use Rattle.dom_store.specs.Steps.{NarrowsTerm, Gives, IsAtLeast, IsAtMost, IsNot, LowIs, HighIs, IsGone}
use Rattle.table_prop.specs.Among.{HasNoNumber, IsFirst, IsLast, IsFirstTo, IsLastTo, IsAmong, HasAll, LowIsAmong, HighIsAmong, ValueIsAmong, ValuesAreAmong, EachIsAmong, AreAmong}
use Rattle.dom_store.proofs.Stepping.{Box, had_before, narrows_in, step_none, narrows_idle, narrows_as, narrows_then, narrows_end_after}

-- ---- the least and the greatest number of a list
pub first_none : (vs : List ℤ) → 0 < length vs → IsFirstTo vs 0 0
first_none vs some = record { inside = some; least = λ k h d. absurd (omega (arith, h)) }

pub first_taken : (vs : List ℤ) (place at : ℕ) → IsFirstTo vs at place → at < length vs → slice_index_or vs at (pos 0) <ℤ slice_index_or vs place (pos 0) → IsFirstTo vs (at + 1) at
first_taken vs place at before inside less = record {
  inside = inside;
  least = below_more (λ k. (d : ℤ) → slice_index_or vs at (pos 0) ≤ℤ slice_index_or vs k d) at (λ k h d. let least = before.least k h d in omega (arith, ints, least, less)) (λ d. let same = get_or_default vs at (pos 0) d inside in omega (arith, ints, same));
}

pub first_kept : (vs : List ℤ) (place at : ℕ) → IsFirstTo vs at place → at < length vs → slice_index_or vs place (pos 0) ≤ℤ slice_index_or vs at (pos 0) → IsFirstTo vs (at + 1) place
first_kept vs place at before inside more = record {
  inside = before.inside;
  least = below_more (λ k. (d : ℤ) → slice_index_or vs place (pos 0) ≤ℤ slice_index_or vs k d) at before.least (λ d. let same = get_or_default vs at (pos 0) d inside in omega (arith, ints, same, more));
}

pub first_is : (vs : List ℤ) (place : ℕ) → IsFirstTo vs (length vs) place → IsFirst vs (slice_index_or vs place (pos 0))
first_is vs place is = record {
  has = Contains-get_or vs place (pos 0) is.inside;
  least = λ z has. let least = is.least has.0 has.1 z in let same = has.2 in omega (arith, ints, least, same);
}

pub last_none : (vs : List ℤ) → 0 < length vs → IsLastTo vs 0 0
last_none vs some = record { inside = some; greatest = λ k h d. absurd (omega (arith, h)) }

pub last_taken : (vs : List ℤ) (place at : ℕ) → IsLastTo vs at place → at < length vs → slice_index_or vs place (pos 0) <ℤ slice_index_or vs at (pos 0) → IsLastTo vs (at + 1) at
last_taken vs place at before inside more = record {
  inside = inside;
  greatest = below_more (λ k. (d : ℤ) → slice_index_or vs k d ≤ℤ slice_index_or vs at (pos 0)) at (λ k h d. let most = before.greatest k h d in omega (arith, ints, most, more)) (λ d. let same = get_or_default vs at (pos 0) d inside in omega (arith, ints, same));
}

pub last_kept : (vs : List ℤ) (place at : ℕ) → IsLastTo vs at place → at < length vs → slice_index_or vs at (pos 0) ≤ℤ slice_index_or vs place (pos 0) → IsLastTo vs (at + 1) place
last_kept vs place at before inside less = record {
  inside = before.inside;
  greatest = below_more (λ k. (d : ℤ) → slice_index_or vs k d ≤ℤ slice_index_or vs place (pos 0)) at before.greatest (λ d. let same = get_or_default vs at (pos 0) d inside in omega (arith, ints, same, less));
}

pub last_is : (vs : List ℤ) (place : ℕ) → IsLastTo vs (length vs) place → IsLast vs (slice_index_or vs place (pos 0))
last_is vs place is = record {
  has = Contains-get_or vs place (pos 0) is.inside;
  greatest = λ z has. let most = is.greatest has.0 has.1 z in let same = has.2 in omega (arith, ints, most, same);
}

-- ---- the bounds
low_among : (t : Term) (vs : List ℤ) (first : ℤ) (box : Box) → IsFirst vs first → IsBox box → TermIn (length box) t → LowIs t first box → LowIsAmong t vs box
unfolding LowIs LowIsAmong IsAmong HasAll
low_among t vs first box is well_formed inside reached has =
    let least = has_between box t first well_formed inside (has first is.has) in
    let low : term_low box t ≤ℤ first = least.0 in
    let same : first ≡ term_low box t = omega (arith, ints, reached, low) in
    subst (Contains vs) same is.has

high_among : (t : Term) (vs : List ℤ) (last : ℤ) (box : Box) → IsLast vs last → IsBox box → TermIn (length box) t → HighIs t last box → HighIsAmong t vs box
unfolding HighIs HighIsAmong IsAmong HasAll
high_among t vs last box is well_formed inside reached has =
    let most = has_between box t last well_formed inside (has last is.has) in
    let high : last ≤ℤ term_high box t = most.1 in
    let same : last ≡ term_high box t = omega (arith, ints, reached, high) in
    subst (Contains vs) same is.has

from_first : (vs : List ℤ) (first z : ℤ) → IsFirst vs first → IsAmong vs z → IsAtLeast first z
unfolding IsAmong
from_first vs first z is among = is.least z among

to_last : (vs : List ℤ) (last z : ℤ) → IsLast vs last → IsAmong vs z → IsAtMost last z
unfolding IsAmong
to_last vs last z is among = is.greatest z among

pub raised_among : (t : Term) (vs : List ℤ) (first : ℤ) (old new : Stored) (result : Passed) → TermIn (length old.box) t → IsFirst vs first → NarrowsTerm (IsAtLeast first) (LowIs t first) t old new result → NarrowsTerm (IsAmong vs) (LowIsAmong t vs) t old new result
raised_among t vs first old new result inside is move =
    narrows_as (IsAtLeast first) (IsAmong vs) (LowIs t first) (LowIsAmong t vs) t old new result (λ z among. from_first vs first z is among) (λ runs well_formed reached. low_among t vs first new.box is well_formed (narrows_in (IsAtLeast first) (LowIs t first) t old new result move inside) reached) move

pub capped_among : (t : Term) (vs : List ℤ) (last : ℤ) (old new : Stored) (result : Passed) → TermIn (length old.box) t → IsLast vs last → NarrowsTerm (IsAtMost last) (HighIs t last) t old new result → NarrowsTerm (IsAmong vs) (HighIsAmong t vs) t old new result
capped_among t vs last old new result inside is move =
    narrows_as (IsAtMost last) (IsAmong vs) (HighIs t last) (HighIsAmong t vs) t old new result (λ z among. to_last vs last z is among) (λ runs well_formed reached. high_among t vs last new.box is well_formed (narrows_in (IsAtMost last) (HighIs t last) t old new result move inside) reached) move

-- an empty list has no number
pub no_number : (vs : List ℤ) → length vs ≡ 0 → HasNoNumber vs
unfolding HasNoNumber
no_number vs none z has = absurd (omega (arith, has.1, none))

-- where there is no number, no assignment is left
pub none_among : (P : Box → Type 0) (t : Term) (vs : List ℤ) (s : Stored) → IsBox s.box → HasNoNumber vs → NarrowsTerm (IsAmong vs) P t s s passed.Empty
unfolding HasNoNumber IsAmong Gives
none_among P t vs s well_formed none = record { step = step_none P (Gives (IsAmong vs) t) s well_formed (λ θ lies given. none _ given) }

-- ---- one value
differs : (vs : List ℤ) (v z : ℤ) → (Contains vs v → ⊥) → IsAmong vs z → IsNot v z
unfolding IsAmong
differs vs v z out among = λ same. out (subst (Contains vs) same among)

gone_among : (t : Term) (vs : List ℤ) (v : ℤ) (box : Box) → IsGone t v box → ValueIsAmong t vs v box
unfolding IsGone ValueIsAmong
gone_among t vs v box gone at = absurd (gone at)

pub dropped_among : (t : Term) (vs : List ℤ) (v : ℤ) (old new : Stored) (result : Passed) → (Contains vs v → ⊥) → NarrowsTerm (IsNot v) (IsGone t v) t old new result → NarrowsTerm (IsAmong vs) (ValueIsAmong t vs v) t old new result
dropped_among t vs v old new result out move =
    narrows_as (IsNot v) (IsAmong vs) (IsGone t v) (ValueIsAmong t vs v) t old new result (λ z among. differs vs v z out among) (λ runs well_formed gone. gone_among t vs v new.box gone) move

pub unhad_among : (t : Term) (vs : List ℤ) (v : ℤ) (s : Stored) → IsBox s.box → (TermHas s.box t v → ⊥) → NarrowsTerm (IsAmong vs) (ValueIsAmong t vs v) t s s passed.Done
unfolding ValueIsAmong
unhad_among t vs v s well_formed unhad = narrows_idle (IsAmong vs) (ValueIsAmong t vs v) t s well_formed (λ at. absurd (unhad at.has))

pub had_among : (t : Term) (vs : List ℤ) (v : ℤ) (s : Stored) → IsBox s.box → Contains vs v → NarrowsTerm (IsAmong vs) (ValueIsAmong t vs v) t s s passed.Done
unfolding ValueIsAmong IsAmong
had_among t vs v s well_formed has = narrows_idle (IsAmong vs) (ValueIsAmong t vs v) t s well_formed (λ at. has)

-- ---- value after value
pub values_none : (t : Term) (vs : List ℤ) (low : ℤ) (s : Stored) → IsBox s.box → NarrowsTerm (IsAmong vs) (ValuesAreAmong t vs low 0) t s s passed.Done
unfolding ValuesAreAmong
values_none t vs low s well_formed = narrows_idle (IsAmong vs) (ValuesAreAmong t vs low 0) t s well_formed (λ k h. absurd (omega (arith, h)))

more_among : (t : Term) (vs : List ℤ) (low v : ℤ) (n : ℕ) (box : Box) → v ≡ low +ℤ pos n → ValuesAreAmong t vs low n box → ValueIsAmong t vs v box → ValuesAreAmong t vs low (n + 1) box
unfolding ValuesAreAmong
more_among t vs low v n box is before here = below_more (λ k. ValueIsAmong t vs (low +ℤ pos k) box) n before (subst (λ z. ValueIsAmong t vs z box) is here)

pub values_more : (t : Term) (vs : List ℤ) (low v : ℤ) (n : ℕ) (a b d : Stored) → v ≡ low +ℤ pos n → NarrowsTerm (IsAmong vs) (ValuesAreAmong t vs low n) t a b passed.Done → NarrowsTerm (IsAmong vs) (ValueIsAmong t vs v) t b d passed.Done
    → NarrowsTerm (IsAmong vs) (ValuesAreAmong t vs low (n + 1)) t a d passed.Done
values_more t vs low v n a b d is first then =
    narrows_then (IsAmong vs) (ValuesAreAmong t vs low n) (ValueIsAmong t vs v) (ValuesAreAmong t vs low (n + 1)) t a b d passed.Done (λ before here. more_among t vs low v n d.box is before here) first then

pub values_end : (P : Box → Type 0) (t : Term) (vs : List ℤ) (low v : ℤ) (n : ℕ) (a b d : Stored) → NarrowsTerm (IsAmong vs) (ValuesAreAmong t vs low n) t a b passed.Done → NarrowsTerm (IsAmong vs) (ValueIsAmong t vs v) t b d passed.Empty → NarrowsTerm (IsAmong vs) P t a d passed.Empty
values_end P t vs low v n a b d first then = narrows_end_after (IsAmong vs) (ValuesAreAmong t vs low n) (ValueIsAmong t vs v) P t a b d first then

-- ---- all values
wide_term : (box : Box) (t : Term) (span : ℕ) → 1024 ≤ span → term_low box t +ℤ pos span ≡ term_high box t → IsWide box t
wide_term box (term.Const z) span far is = omega (arith, ints, far, is)
wide_term box (term.Var k) span far is = omega (arith, ints, far, is)

pub wide_among : (t : Term) (vs : List ℤ) (span : ℕ) (s : Stored) → IsBox s.box → 1024 ≤ span → term_low s.box t +ℤ pos span ≡ term_high s.box t → NarrowsTerm (IsAmong vs) (EachIsAmong t vs) t s s passed.Done
unfolding EachIsAmong
wide_among t vs span s well_formed far is = narrows_idle (IsAmong vs) (EachIsAmong t vs) t s well_formed (inl (wide_term s.box t span far is))

-- a number from another up to one that is so many above it is some above it
natural_at : (z : ℤ) → pos 0 ≤ℤ z → (k : ℕ) × (z ≡ pos k)
natural_at (pos n) low = (n, refl)
natural_at (negsuc n) low = absurd (omega (arith, ints, low))

steps_up : (low v : ℤ) (span : ℕ) → low ≤ℤ v → v ≤ℤ (low +ℤ pos span) → (k : ℕ) × (k < span + 1) × (low +ℤ pos k ≡ v)
steps_up low v span from to =
    let place = natural_at (v -ℤ low) (omega (arith, ints, from)) in
    (place.0, omega (arith, ints, place.1, to), omega (arith, ints, place.1))

each_from : (t : Term) (vs : List ℤ) (low : ℤ) (span : ℕ) (old new : Stored) → IsBox old.box → TermIn (length old.box) t → low ≡ term_low old.box t → term_low old.box t +ℤ pos span ≡ term_high old.box t
    → Prunes (Gives (IsAmong vs) t) old new → ValuesAreAmong t vs low (span + 1) new.box → EachIsAmong t vs new.box
unfolding ValuesAreAmong EachIsAmong ValueIsAmong
each_from t vs low span old new well_formed inside low_is high_is runs before = inr (λ v at.
    let between = has_between old.box t v well_formed inside (had_before (Gives (IsAmong vs) t) old new t v runs at.has) in
    let place = steps_up low v span (omega (arith, ints, between.0, low_is)) (omega (arith, ints, between.1, low_is, high_is)) in
    subst (IsAmong vs) place.2 (before place.0 place.1 (subst (IsLookedAt new.box t) (sym place.2) at)))

pub each_among : (t : Term) (vs : List ℤ) (low : ℤ) (span : ℕ) (old new : Stored) (result : Passed) → IsBox old.box → TermIn (length old.box) t → low ≡ term_low old.box t → term_low old.box t +ℤ pos span ≡ term_high old.box t
    → NarrowsTerm (IsAmong vs) (ValuesAreAmong t vs low (span + 1)) t old new result → NarrowsTerm (IsAmong vs) (EachIsAmong t vs) t old new result
each_among t vs low span old new result well_formed inside low_is high_is move =
    narrows_as (IsAmong vs) (IsAmong vs) (ValuesAreAmong t vs low (span + 1)) (EachIsAmong t vs) t old new result (λ z among. among) (λ runs now before. each_from t vs low span old new well_formed inside low_is high_is runs before) move

-- ---- the bounds and all values
all_among : (t : Term) (vs : List ℤ) (box : Box) → LowIsAmong t vs box × HighIsAmong t vs box → EachIsAmong t vs box → AreAmong t vs box
unfolding LowIsAmong HighIsAmong EachIsAmong AreAmong ValueIsAmong
all_among t vs box bounds (inl wide) has v at = elim (at.bound wide) [ inl is ↦ subst (IsAmong vs) (sym is) (bounds.0 has) | inr is ↦ subst (IsAmong vs) (sym is) (bounds.1 has) ]
all_among t vs box bounds (inr each) has v at = each v at

pub are_among : (t : Term) (vs : List ℤ) (a b d e : Stored) (result : Passed) → NarrowsTerm (IsAmong vs) (LowIsAmong t vs) t a b passed.Done → NarrowsTerm (IsAmong vs) (HighIsAmong t vs) t b d passed.Done → NarrowsTerm (IsAmong vs) (EachIsAmong t vs) t d e result → NarrowsTerm (IsAmong vs) (AreAmong t vs) t a e result
are_among t vs a b d e result first then last =
    let bounds = narrows_then (IsAmong vs) (LowIsAmong t vs) (HighIsAmong t vs) (λ box. LowIsAmong t vs box × HighIsAmong t vs box) t a b d passed.Done (λ p q. (p, q)) first then in
    narrows_then (IsAmong vs) (λ box. LowIsAmong t vs box × HighIsAmong t vs box) (EachIsAmong t vs) (AreAmong t vs) t a d e result (λ p q. all_among t vs e.box p q) bounds last
