-- The places whose members can't have the value of the chosen term.
use Rattle.std.proofs.Common.{◌≡◌, ◌≢◌, ℕ, ◌+◌, ◌<◌, ◌≤◌, List, length, refl, ap, ◌∙◌, arith, subst, below_more, inl, inr}
use Rattle.std.specs.Prelude.{ℤ, pos, ◌≤ℤ◌, ◌<ℤ◌, slice_index_or}
use Rattle.std.proofs.lemmas.Int.{ints}
use Rattle.std.proofs.lemmas.Bool.{cases_lt}
use Rattle.std.proofs.lemmas.List.{get_or_default}
use Rattle.fzn_model.specs.declared.term.Term.{Term}
use Rattle.fzn_model.specs.declared.term.Term.TheVariants as term
use Rattle.fzn_model.specs.declared.con.Con.TheVariants as con
use Rattle.fzn_model.specs.Meaning.{val, Holds}
use Rattle.fzn_model.specs.Limits.{TermIn}
use Rattle.fzn_model.specs.Boxes.{IsBox, InBox}
use Rattle.dom_store.specs.declared.pass.Passed.{Passed}
use Rattle.dom_store.specs.declared.pass.Passed.TheVariants as passed
use Rattle.dom_store.specs.Stores.{Stored}
use Rattle.fzn_model.specs.Bounds.{term_low, term_high, TermHas, IsLookedAt}
use Rattle.dom_store.specs.Steps.{Reaches, NarrowsTerm, IsNot, IsGone}
use Rattle.dom_store.specs.Narrowing.{Prunes}
use Rattle.dom_store.specs.Strength.{HullsMeet}
use Rattle.fzn_model.proofs.Terms.{has_between, has_high, low_to_high, val_low, val_high}
use Rattle.dom_store.proofs.Laws.{low_rises, high_falls, term_stays}
use Rattle.dom_store.proofs.Stepping.{narrowed}
use Rattle.element_prop.specs.Places.{member, IsReady, IsImpossible, AreApart, MeetsAt, MeetsBefore}
use Rattle.element_prop.specs.Found.{IsFound, IsLastMet}
use Rattle.element_prop.specs.declared.places.Found.{Found}
use Rattle.element_prop.specs.declared.places.Found.TheVariants as found

pub hulls_meet : (box : List (List ℤ)) (x c : Term) → term_low box x ≤ℤ term_high box c → term_low box c ≤ℤ term_high box x → HullsMeet box x c
hulls_meet box x c below above = record { below = below; above = above }

pub apart_below : (box : List (List ℤ)) (x c : Term) → term_high box c <ℤ term_low box x → AreApart box x c
unfolding AreApart
apart_below box x c less meets = omega (arith, ints, less, meets.below)

pub apart_above : (box : List (List ℤ)) (x c : Term) → term_high box x <ℤ term_low box c → AreApart box x c
unfolding AreApart
apart_above box x c less meets = omega (arith, ints, less, meets.above)

pub found_unhad : (box : List (List ℤ)) (i : Term) (xs : List Term) (c : Term) (k : ℕ) → (TermHas box i (pos (k + 1)) → ⊥) → IsFound box i xs c k found.Gone
unfolding IsFound
found_unhad box i xs c k unhad at = unhad at.has

pub found_met : (box : List (List ℤ)) (i : Term) (xs : List Term) (c : Term) (k : ℕ) → TermHas box i (pos (k + 1)) → HullsMeet box (member xs k) c → IsFound box i xs c k found.Met
unfolding IsFound
found_met box i xs c k has meets = (has, meets)

pub found_dropped : (box : List (List ℤ)) (i : Term) (xs : List Term) (c : Term) (k : ℕ) → IsGone i (pos (k + 1)) box → IsFound box i xs c k found.Gone
unfolding IsFound IsGone
found_dropped box i xs c k dropped = dropped

pub found_empty : (box : List (List ℤ)) (i : Term) (xs : List Term) (c : Term) (k : ℕ) → IsFound box i xs c k found.Empty
unfolding IsFound
found_empty box i xs c k = tt

-- where the index is looked at, the hulls meet
pub meets_found : (box : List (List ℤ)) (i : Term) (xs : List Term) (c : Term) (k : ℕ) (answer : Found) → (answer ≡ found.Empty → ⊥) → IsFound box i xs c k answer → MeetsAt box i xs c k
unfolding IsFound MeetsAt
meets_found box i xs c k found.Met some is at = is.1
meets_found box i xs c k found.Gone some is at = absurd (is at)
meets_found box i xs c k found.Empty some is at = absurd (some refl)

-- terms with the same value have hulls that meet
same_meets : (box : List (List ℤ)) (x c : Term) (θ : List ℤ) → IsBox box → TermIn (length box) x → TermIn (length box) c → InBox box θ → val x θ ≡ val c θ → HullsMeet box x c
same_meets box x c θ well_formed inside within lies same =
    let xl = val_low box x θ well_formed inside lies in
    let xh = val_high box x θ well_formed inside lies in
    let cl = val_low box c θ well_formed within lies in
    let ch = val_high box c θ well_formed within lies in
    record { below = omega (arith, ints, xl, ch, same); above = omega (arith, ints, xh, cl, same) }

-- no assignment with the constraint has the index in a place whose member is apart
apart_spares : (box : List (List ℤ)) (i : Term) (xs : List Term) (c : Term) (k : ℕ) → IsReady box i xs c → k < length xs → AreApart box (member xs k) c → (θ : List ℤ) → InBox box θ → Holds (con.Element i xs c) θ → val i θ ≢ pos (k + 1)
unfolding AreApart
apart_spares box i xs c k ready h apart θ lies (j, inside, at, same) e =
    let here : j ≡ k = omega (arith, ints, at, e) in
    let term_is : slice_index_or xs j c ≡ member xs k = ap (λ n. slice_index_or xs n c) here ∙ get_or_default xs k c (term.Const (pos 0)) h in
    let value : val (member xs k) θ ≡ val c θ = subst (λ t. val t θ ≡ val c θ) term_is same in
    apart (same_meets box (member xs k) c θ ready.well_formed (ready.members k (term.Const (pos 0)) h) ready.chosen lies value)

pub drop_prunes : (i : Term) (xs : List Term) (c : Term) (k : ℕ) (old new : Stored) (result : Passed) → IsReady old.box i xs c → k < length xs → AreApart old.box (member xs k) c → NarrowsTerm (IsNot (pos (k + 1))) (IsGone i (pos (k + 1))) i old new result → Prunes (Holds (con.Element i xs c)) old new
drop_prunes i xs c k old new result ready h apart narrows = (narrowed (Holds (con.Element i xs c)) narrows (λ θ lies holds. apart_spares old.box i xs c k ready h apart θ lies holds)).prunes

pub drop_none : (i : Term) (xs : List Term) (c : Term) (k : ℕ) (old new : Stored) → IsReady old.box i xs c → k < length xs → AreApart old.box (member xs k) c → NarrowsTerm (IsNot (pos (k + 1))) (IsGone i (pos (k + 1))) i old new passed.Empty → IsImpossible old.box i xs c
unfolding IsImpossible Reaches
drop_none i xs c k old new ready h apart narrows = (narrowed (Holds (con.Element i xs c)) narrows (λ θ lies holds. apart_spares old.box i xs c k ready h apart θ lies holds)).reaches

-- a number outside the bounds is no value
unhad_below : (box : List (List ℤ)) (i : Term) (v : ℤ) → IsBox box → TermIn (length box) i → v <ℤ term_low box i → TermHas box i v → ⊥
unhad_below box i v well_formed inside less has = let between = has_between box i v well_formed inside has in omega (arith, ints, less, between.0)

unhad_above : (box : List (List ℤ)) (i : Term) (v : ℤ) → IsBox box → TermIn (length box) i → term_high box i <ℤ v → TermHas box i v → ⊥
unhad_above box i v well_formed inside more has = let between = has_between box i v well_formed inside has in omega (arith, ints, more, between.1)

-- the index can have no place before its first, and none after its last
pub unhad_first : (box : List (List ℤ)) (i : Term) (first k : ℕ) → IsBox box → TermIn (length box) i → pos (first + 1) ≡ term_low box i → k < first → TermHas box i (pos (k + 1)) → ⊥
unhad_first box i first k well_formed inside e h = unhad_below box i (pos (k + 1)) well_formed inside (omega (arith, ints, e, h))

pub unhad_last : (box : List (List ℤ)) (i : Term) (end k : ℕ) → IsBox box → TermIn (length box) i → pos end ≡ term_high box i → end ≤ k → TermHas box i (pos (k + 1)) → ⊥
unhad_last box i end k well_formed inside e h = unhad_above box i (pos (k + 1)) well_formed inside (omega (arith, ints, e, h))

meets_unhad : (box : List (List ℤ)) (i : Term) (xs : List Term) (c : Term) (k : ℕ) → (TermHas box i (pos (k + 1)) → ⊥) → MeetsAt box i xs c k
unfolding MeetsAt
meets_unhad box i xs c k unhad at = absurd (unhad at.has)

pub meets_to_first : (box : List (List ℤ)) (i : Term) (xs : List Term) (c : Term) (first : ℕ) → IsReady box i xs c → pos (first + 1) ≡ term_low box i → MeetsBefore box i xs c first
unfolding MeetsBefore
meets_to_first box i xs c first ready e k h = meets_unhad box i xs c k (unhad_first box i first k ready.well_formed ready.index e h)

pub meets_all : (box : List (List ℤ)) (i : Term) (xs : List Term) (c : Term) (n end : ℕ) → IsReady box i xs c → pos end ≡ term_high box i → end ≤ n → MeetsBefore box i xs c n → MeetsBefore box i xs c (length xs)
unfolding MeetsBefore
meets_all box i xs c n end ready e far before k h = elim (cases_lt k n) [
  | inl less ↦ before k less
  | inr more ↦ meets_unhad box i xs c k (unhad_last box i end k ready.well_formed ready.index e (omega (arith, far, more)))
]

pub meets_more : (box : List (List ℤ)) (i : Term) (xs : List Term) (c : Term) (n : ℕ) → MeetsBefore box i xs c n → MeetsAt box i xs c n → MeetsBefore box i xs c (n + 1)
unfolding MeetsBefore
meets_more box i xs c n before here = below_more _ _ before here

-- ---- from the last place down
-- a place that is gone was the last
pub falls_on : (i : Term) (xs : List Term) (c : Term) (k : ℕ) (old new : Stored) → Prunes (Holds (con.Element i xs c)) old new → IsReady old.box i xs c → IsBox new.box → term_high old.box i ≤ℤ pos (k + 1) → IsFound new.box i xs c k found.Gone → term_high new.box i ≤ℤ pos k
unfolding IsFound
falls_on i xs c k old new runs ready well_formed most gone =
    let falls = high_falls _ old.box new.box i ready.well_formed well_formed runs.loses ready.index in
    let has = has_high new.box i well_formed (term_stays _ old.box new.box i runs.loses ready.index) in
    let apart : term_high new.box i ≢ pos (k + 1) = λ same. gone (subst (IsLookedAt new.box i) same (record { has = has; bound = λ wide. inr refl })) in
    omega (arith, ints, falls, most, apart)

-- a place where the hulls meet is the last
pub last_met : (i : Term) (xs : List Term) (c : Term) (n : ℕ) (old new : Stored) → Prunes (Holds (con.Element i xs c)) old new → IsReady old.box i xs c → IsBox new.box → term_high old.box i ≤ℤ pos (n + 1) → IsFound new.box i xs c n found.Met → IsLastMet new.box i xs c
unfolding IsFound IsLastMet
last_met i xs c n old new runs ready well_formed most met k e =
    let falls = high_falls _ old.box new.box i ready.well_formed well_formed runs.loses ready.index in
    let between = has_between new.box i (pos (n + 1)) well_formed (term_stays _ old.box new.box i runs.loses ready.index) met.0 in
    let here : n ≡ k = omega (arith, ints, falls, most, between.1, e) in
    subst (λ j. HullsMeet new.box (member xs j) c) here met.1

-- no place is left
pub none_left : (i : Term) (xs : List Term) (c : Term) (first : ℕ) (old new : Stored) → Prunes (Holds (con.Element i xs c)) old new → IsReady old.box i xs c → IsBox new.box → pos (first + 1) ≡ term_low old.box i → term_high new.box i ≤ℤ pos first → IsLastMet new.box i xs c
none_left i xs c first old new runs ready well_formed e most =
    let rises = low_rises _ old.box new.box i ready.well_formed well_formed runs.loses ready.index in
    let ordered = low_to_high new.box i well_formed (term_stays _ old.box new.box i runs.loses ready.index) in
    absurd (omega (arith, ints, rises, ordered, e, most))
