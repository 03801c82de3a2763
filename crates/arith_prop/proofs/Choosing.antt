-- Each step for the greatest or the least of a list, and what they owe together.
use Rattle.std.proofs.Common.{◌≡◌, ℕ, suc, ◌+◌, ◌<◌, List, ◌∷◌, length, sym, subst, ◌∙◌, arith}
use Rattle.std.specs.Prelude.{ℤ, slice_index_or, All, Contains}
use Rattle.std.proofs.lemmas.List.{get_or_default}
use Rattle.fzn_model.specs.declared.term.Term.{Term}
use Rattle.fzn_model.specs.declared.con.Con.{Con}
use Rattle.fzn_model.specs.Limits.{ConInLimits, TermIn, ListInLimits, of_call}
use Rattle.fzn_model.specs.Meaning.{val, Holds, HasValue, AreAtMost, AreAtLeast}
use Rattle.fzn_model.specs.Boxes.{IsBox, InBox}
use Rattle.fzn_model.specs.Bounds.{IsFixed}
use Rattle.dom_store.specs.declared.pass.Passed.{Passed}
use Rattle.dom_store.specs.declared.pass.Passed.TheVariants as passed
use Rattle.dom_store.specs.Stores.{Stored}
use Rattle.dom_store.specs.Strength.{IsOwed, IsChecked}
use Rattle.dom_store.specs.Steps.{EachTo, Step}
use Rattle.dom_store.proofs.Stepping.{each_more, narrowed, step_as, step_end_after, still_in}
use Rattle.dom_store.specs.declared.extreme.Extreme.{Extreme}
use Rattle.dom_store.specs.declared.extreme.Extreme.TheVariants as extreme
use Rattle.arith_prop.specs.Parts.{extreme_con}
use Rattle.dom_store.specs.Extremes.{opposite, bound_of, Bounds, IsBounded}
use Rattle.arith_prop.specs.Extremes.{Limits, IsFurthest, ReachesEach, IsReached, MembersAreBounded, IsNarrowed}
use Rattle.dom_store.proofs.Limiting.{bounds_trans, bounds_both, turned, bound_value, bound_fixed}
use Rattle.arith_prop.proofs.Passing.{Suffices}

-- ---- what is apart by kind
pub result_in : (e : Extreme) (n : ℕ) (m : Term) (xs : List Term) → ConInLimits of_call n (extreme_con e m xs) → TermIn n m
result_in extreme.Least n m xs kept = kept.0
result_in extreme.Greatest n m xs kept = kept.0

pub members_in : (e : Extreme) (n : ℕ) (m : Term) (xs : List Term) → ConInLimits of_call n (extreme_con e m xs) → ListInLimits n xs
members_in extreme.Least n m xs kept = kept.1
members_in extreme.Greatest n m xs kept = kept.1

pub extreme_in : (e : Extreme) (n : ℕ) (m : Term) (xs : List Term) → TermIn n m → ListInLimits n xs → ConInLimits of_call n (extreme_con e m xs)
extreme_in extreme.Least n m xs result members = (result, members)
extreme_in extreme.Greatest n m xs result members = (result, members)

abbrev IsExtreme : Extreme → Term → List Term → List ℤ → Type 0
IsExtreme e m xs θ = HasValue xs (val m θ) θ × All (λ x. Bounds e (val m θ) (val x θ)) xs

extreme_is : (e : Extreme) (m : Term) (xs : List Term) (θ : List ℤ) → Holds (extreme_con e m xs) θ → IsExtreme e m xs θ
unfolding AreAtMost AreAtLeast
extreme_is extreme.Least m xs θ holds = holds
extreme_is extreme.Greatest m xs θ holds = holds

extreme_holds : (e : Extreme) (m : Term) (xs : List Term) (θ : List ℤ) → IsExtreme e m xs θ → Holds (extreme_con e m xs) θ
unfolding AreAtMost AreAtLeast
extreme_holds extreme.Least m xs θ is = is
extreme_holds extreme.Greatest m xs θ is = is

owed_by : (e : Extreme) (m : Term) (xs : List Term) (box : List (List ℤ)) → IsNarrowed e m xs box → (All (IsFixed box) (m ∷ xs) → (θ : List ℤ) → InBox box θ → Holds (extreme_con e m xs) θ) → IsOwed box (extreme_con e m xs)
unfolding ReachesEach IsReached IsBounded EachTo bound_of IsChecked
owed_by extreme.Least m xs box ((reaches, reached), members) checked = record { kind = record { below = reaches; above = reached; raised = members }; checked = checked }
owed_by extreme.Greatest m xs box ((reaches, reached), members) checked = record { kind = record { above = reaches; below = reached; capped = members }; checked = checked }

-- ---- a term within the bound of another
-- each assignment with the constraint has the values of two terms in the order
ordered_step : (e : Extreme) (c : Con) (m x : Term) (old new : Stored) (result : Passed) → TermIn (length old.box) m → ((θ : List ℤ) → Holds c θ → Bounds e (val m θ) (val x θ)) → Limits e m x old new result → Step (IsBounded e (bound_of e m) x) (Holds c) old new result
ordered_step e c m x old new result inside ordered limits = narrowed (Holds c) limits.narrows
    (λ θ lies holds. bounds_trans e (bound_of e m old.box) (val m θ) (val x θ) (bound_value e old.box m θ limits.well_formed inside lies) (ordered θ holds))

member_bounded : (e : Extreme) (m x : Term) (xs : List Term) (θ : List ℤ) → Contains xs x → Holds (extreme_con e m xs) θ → Bounds e (val m θ) (val x θ)
member_bounded e m x xs θ has holds = subst (λ t. Bounds e (val m θ) (val t θ)) has.2 ((extreme_is e m xs θ holds).1 has.0 x has.1)

-- ---- the steps
pub each_reached : (e other : Extreme) (m best : Term) (xs : List Term) (old new : Stored) (result : Passed) → other ≡ opposite e → TermIn (length old.box) best → IsFurthest old.box e other (length xs) xs best → Limits other best m old new result → Step (ReachesEach e m xs) (Holds (extreme_con e m xs)) old new result
unfolding ReachesEach IsBounded
each_reached e other m best xs old new result is inside furthest limits =
    let turn : (a b : ℤ) → Bounds e a b → Bounds other b a = λ a b within. subst (λ o. Bounds o b a) (sym is) (turned e a b within) in
    subst (λ o. Step (λ box. All (λ x. IsBounded o (bound_of o x) m box) xs) (Holds (extreme_con e m xs)) old new result) is
    (step_as (IsBounded other (bound_of other best) m) (λ box. All (λ x. IsBounded other (bound_of other x) m box) xs) (Holds (extreme_con e m xs)) old new result
    (λ same reached k d h.
    let least : Bounds other (bound_of other (slice_index_or xs k d) old.box) (bound_of other best old.box) = turn _ _ (furthest.most k d h) in
    let now : Bounds other (bound_of other (slice_index_or xs k d) new.box) (bound_of other best new.box) = subst (λ box. Bounds other (bound_of other (slice_index_or xs k d) box) (bound_of other best box)) (sym same) least in
    bounds_trans other (bound_of other (slice_index_or xs k d) new.box) (bound_of other best new.box) (bound_of other m new.box) now reached)
    (ordered_step other (extreme_con e m xs) best m old new result inside (λ θ holds. turn _ _ (member_bounded e m best xs θ furthest.member holds)) limits))

reached_spares : (e : Extreme) (m best : Term) (xs : List Term) (box : List (List ℤ)) → IsBox box → ListInLimits (length box) xs → IsFurthest box e e (length xs) xs best → (θ : List ℤ) → InBox box θ → IsExtreme e m xs θ → Bounds e (bound_of e best box) (val m θ)
unfolding HasValue
reached_spares e m best xs box well_formed members furthest θ lies ((k, x, h, at, same), all) =
    let inside : TermIn (length box) x = subst (TermIn (length box)) at (members.terms.terms k x h) in
    let most : Bounds e (bound_of e best box) (bound_of e x box) = subst (λ t. Bounds e (bound_of e best box) (bound_of e t box)) at (furthest.most k x h) in
    subst (Bounds e (bound_of e best box)) same (bounds_trans e (bound_of e best box) (bound_of e x box) (val x θ) most (bound_value e box x θ well_formed inside lies))

pub some_reached : (e : Extreme) (m best : Term) (xs : List Term) (old new : Stored) (result : Passed) → ListInLimits (length old.box) xs → IsFurthest old.box e e (length xs) xs best → Limits e best m old new result → Step (IsReached e m xs) (Holds (extreme_con e m xs)) old new result
unfolding IsReached
some_reached e m best xs old new result members furthest limits =
    step_as (IsBounded e (bound_of e best) m) (IsReached e m xs) (Holds (extreme_con e m xs)) old new result
    (λ same reached. (furthest.member.0, best, furthest.member.1, furthest.member.2, reached))
    (narrowed (Holds (extreme_con e m xs)) limits.narrows (λ θ lies holds. reached_spares e m best xs old.box limits.well_formed members furthest θ lies (extreme_is e m xs θ holds)))

member_step : (e : Extreme) (m d : Term) (xs : List Term) (n : ℕ) (a b f : Stored) (result : Passed) → n < length xs → TermIn (length a.box) m → Step (MembersAreBounded e m xs n) (Holds (extreme_con e m xs)) a b passed.Done
    → Limits e m (slice_index_or xs n d) b f result → Step (IsBounded e (bound_of e m) (slice_index_or xs n d)) (Holds (extreme_con e m xs)) b f result
member_step e m d xs n a b f result some inside so_far limits =
    let x = slice_index_or xs n d in
    ordered_step e (extreme_con e m xs) m x b f result (still_in (Holds (extreme_con e m xs)) a b m so_far.prunes inside) (λ θ holds. member_bounded e m x xs θ (n, some, get_or_default xs n x d some) holds) limits

pub members_more : (e : Extreme) (m d : Term) (xs : List Term) (n : ℕ) (a b f : Stored) → n < length xs → TermIn (length a.box) m → Step (MembersAreBounded e m xs n) (Holds (extreme_con e m xs)) a b passed.Done
    → Limits e m (slice_index_or xs n d) b f passed.Done → Step (EachTo (IsBounded e (bound_of e m)) xs (n + 1)) (Holds (extreme_con e m xs)) a f passed.Done
members_more e m d xs n a b f some inside so_far limits = each_more (IsBounded e (bound_of e m)) xs n d (Holds (extreme_con e m xs)) a b f some so_far (member_step e m d xs n a b f passed.Done some inside so_far limits)

pub members_end : (e : Extreme) (m d : Term) (xs : List Term) (n : ℕ) (P : List (List ℤ) → Type 0) (a b f : Stored) → n < length xs → TermIn (length a.box) m → Step (MembersAreBounded e m xs n) (Holds (extreme_con e m xs)) a b passed.Done
    → Limits e m (slice_index_or xs n d) b f passed.Empty → Step P (Holds (extreme_con e m xs)) a f passed.Empty
members_end e m d xs n P a b f some inside so_far limits = step_end_after (MembersAreBounded e m xs n) (IsBounded e (bound_of e m) (slice_index_or xs n d)) P (Holds (extreme_con e m xs)) a b f so_far (member_step e m d xs n a b f passed.Empty some inside so_far limits)

-- ---- where all terms are fixed, some member has the value of the result, and all are within it
pub extreme_owed : (e : Extreme) (m : Term) (xs : List Term) (box : List (List ℤ)) → Suffices (IsNarrowed e m xs) (extreme_con e m xs) box
unfolding HasValue IsReached EachTo IsBounded
extreme_owed e m xs box well_formed kept strong = owed_by e m xs box strong
    (λ all θ lies.
    let members = members_in e (length box) m xs kept in
    let value : (t : Term) → TermIn (length box) t → IsFixed box t → val t θ ≡ bound_of e t box = λ t inside fixed. bound_fixed e box t θ well_formed inside lies fixed in
    let result : val m θ ≡ bound_of e m box = value m (result_in e (length box) m xs kept) (all 0 m (omega arith)) in
    let at : (j : ℕ) (d : Term) → j < length xs → val (slice_index_or xs j d) θ ≡ bound_of e (slice_index_or xs j d) box = λ j d i. value (slice_index_or xs j d) (members.terms.terms j d i) (all (suc j) d (omega (arith, i))) in
    let (k, x, h, is, reached) = strong.0.1 in
    let there : val x θ ≡ bound_of e x box = subst (λ t. val t θ ≡ bound_of e t box) is (at k x h) in
    let within : Bounds e (bound_of e m box) (bound_of e x box) = subst (λ t. Bounds e (bound_of e m box) (bound_of e t box)) is (strong.1 k x h) in
    extreme_holds e m xs θ (
      (k, x, h, is, there ∙ bounds_both e (bound_of e x box) (bound_of e m box) reached within ∙ sym result),
      (λ j d i. subst (λ z. Bounds e z (val (slice_index_or xs j d) θ)) (sym result) (subst (Bounds e (bound_of e m box)) (sym (at j d i)) (strong.1 j d i))),
    ))
