-- A run for a reified base: its own propagator's, and then that of its side.
use Rattle.std.proofs.Common.{◌≡◌, ◌<◌, ◌≤◌, List, length, ℤ, refl, sym, ◌∙◌, arith, subst}
use Rattle.std.specs.Prelude.{Bool, true, false, not, IfOk, Result, Ok, Err}
use Rattle.std.proofs.lemmas.Int.{ints}
use Rattle.fzn_model.specs.declared.term.Term.{Term}
use Rattle.fzn_model.specs.declared.lin.Lin.{Lin}
use Rattle.fzn_model.specs.declared.base.Base.{Base}
use Rattle.fzn_model.specs.declared.base.Base.TheVariants as base
use Rattle.fzn_model.specs.declared.con.Con.{Con}
use Rattle.fzn_model.specs.declared.con.Con.TheVariants as con
use Rattle.fzn_model.specs.Meaning.{bit, Holds, HoldsBase}
use Rattle.fzn_model.proofs.Opposites.{opposite_stands, opposite_in_limits, opposite_small}
use Rattle.fzn_model.specs.Opposites.{opposite}
use Rattle.fzn_model.specs.Limits.{TermIn}
use Rattle.fzn_model.specs.Boxes.{IsBox, InBox}
use Rattle.dom_store.specs.declared.propagator.Ran.{Ran}
use Rattle.dom_store.specs.declared.propagator.Ran.TheVariants as ran
use Rattle.dom_store.specs.Stores.{Stored, box_size}
use Rattle.fzn_model.specs.Bounds.{IsAt}
use Rattle.dom_store.specs.Strength.{IsOwed, IsStrong, BaseIsStrong, DeniedIsStrong}
use Rattle.dom_store.proofs.Opposites.{opposite_strong}
use Rattle.fzn_model.specs.Values.{largest}
use Rattle.fzn_model.specs.Booleans.{FitsBox}
use Rattle.dom_store.specs.Narrowing.{Prunes, HasNone}
use Rattle.dom_store.specs.Propagation.{RanMeans, FallsFar}
use Rattle.fzn_model.proofs.Terms.{at_val}
use Rattle.dom_store.proofs.Laws.{prunes_within, prunes_refl, prunes_trans, prunes_still, fits_pruned, none_before, smaller, same_size}
use Rattle.prop_engine.specs.declared.sides.Sides.{Sides}
use Rattle.prop_engine.specs.declared.sides.Sides.TheVariants as sides
use Rattle.prop_engine.specs.declared.sides.Side.{Side}
use Rattle.prop_engine.specs.declared.sides.Side.TheVariants as side
use Rattle.prop_engine.specs.Plans.{CanHold}
use Rattle.prop_engine.specs.Kinds.{IsWhole}
use Rattle.prop_engine.specs.Fixing.{PartsMean, WholeMeans}
use Rattle.prop_engine.specs.Reified.{Belongs, IsSide, SidesFit, SidePrunes, SideMeans}

-- ---- the kinds whose propagator owes the whole strength
owed_strong : (box : List (List ℤ)) (c : Con) → IsWhole c → IsOwed box c → IsStrong box c
owed_strong box (con.Base b) whole owed = record { kind = owed.kind; checked = owed.checked }
owed_strong box (con.Reif b r f) whole owed = absurd whole
owed_strong box (con.Times a b c) whole owed = record { kind = owed.kind; checked = owed.checked }
owed_strong box (con.Abs a b) whole owed = record { kind = owed.kind; checked = owed.checked }
owed_strong box (con.Div a b c) whole owed = record { kind = owed.kind; checked = owed.checked }
owed_strong box (con.Mod a b c) whole owed = record { kind = owed.kind; checked = owed.checked }
owed_strong box (con.Greatest m xs) whole owed = record { kind = owed.kind; checked = owed.checked }
owed_strong box (con.Least m xs) whole owed = record { kind = owed.kind; checked = owed.checked }
owed_strong box (con.Element i xs c) whole owed = record { kind = owed.kind; checked = owed.checked }
owed_strong box (con.AllDiffExcept xs taken) whole owed = record { kind = owed.kind; checked = owed.checked }
owed_strong box (con.CumulUsed tasks used b) whole owed = record { kind = owed.kind; checked = owed.checked }
owed_strong box (con.Table xs rows) whole owed = record { kind = owed.kind; checked = owed.checked }

means_one : (c : Con) (old new : List (List ℤ)) (answer : Ran) → IsWhole c → RanMeans c old new answer → WholeMeans c old new answer
means_one c old new ran.Kept whole means = owed_strong new c whole means
means_one c old new ran.Empty whole means = means
means_one c old new ran.EarlyStop whole means = means

pub means_whole : {E : Type 0} (c : Con) (old new : List (List ℤ)) (result : Result Ran E) → IsWhole c → IfOk result (RanMeans c old new) → IfOk result (WholeMeans c old new)
means_whole c old new (Ok answer) whole means = means_one c old new answer whole means
means_whole c old new (Err e) whole means = tt

-- ---- what the sides are over
term_in : (c : Con) (term : Term) (flag : Bool) (held : Sides) (box : List (List ℤ)) → Belongs c term flag held → FitsBox box c → TermIn (length box) term
term_in (con.Reif b r f) term flag held box belongs fits_box = subst (TermIn (length box)) (sym belongs.0) fits_box.kept.1
term_in c term flag held box belongs fits_box = absurd belongs

base_fits : (box : List (List ℤ)) (b : Base) (r : Term) (f : Bool) → FitsBox box (con.Reif b r f) → FitsBox box (con.Base b)
base_fits box b r f fits_box = record { kept = fits_box.kept.0; booleans = fits_box.booleans.0 }

opposite_fits : (box : List (List ℤ)) (l : Lin) (r : Term) (f : Bool) → FitsBox box (con.Reif (base.Lin l) r f) → CanHold (con.Reif (base.Lin l) r f) → FitsBox box (con.Base (base.Lin (opposite l)))
unfolding opposite
opposite_fits box l r f fits_box able = record {
  kept = record {
    sum = opposite_in_limits l.rel (length box) l.terms l.r fits_box.kept.0.sum;
    constant = let small = opposite_small l.rel l.terms l.r largest able.1 in omega (arith, small);
  };
  booleans = tt;
}

sides_fit : (c : Con) (term : Term) (flag : Bool) (held : Sides) (box : List (List ℤ)) → Belongs c term flag held → FitsBox box c → CanHold c → SidesFit held box
unfolding SidesFit
sides_fit (con.Reif (base.Lin l) r f) term flag (sides.Linear must denied) box belongs fits_box able = (
  subst (FitsBox box) (sym belongs.2.0) (base_fits box (base.Lin l) r f fits_box),
  subst (FitsBox box) (sym belongs.2.1) (opposite_fits box l r f fits_box able),
)
sides_fit (con.Reif (base.Clause c) r f) term flag (sides.Clausal must) box belongs fits_box able = subst (FitsBox box) (sym belongs.2) (base_fits box (base.Clause c) r f fits_box)
sides_fit (con.Reif (base.Member m) r f) term flag (sides.Clausal must) box belongs fits_box able = subst (FitsBox box) (sym belongs.2) (base_fits box (base.Member m) r f fits_box)
sides_fit (con.Reif (base.Clause c) r f) term flag (sides.Linear must denied) box belongs fits_box able = absurd belongs.2
sides_fit (con.Reif (base.Member m) r f) term flag (sides.Linear must denied) box belongs fits_box able = absurd belongs.2
sides_fit (con.Reif (base.Lin l) r f) term flag (sides.Clausal must) box belongs fits_box able = absurd belongs.2
sides_fit c term flag held box belongs fits_box able = absurd belongs

-- ---- what an assignment of the box with the constraint has
differ : (f : Bool) → bit f ≡ bit (not f) → ⊥
differ true e = omega (arith, ints, e)
differ false e = omega (arith, ints, e)

must_holds : (b : Base) (r : Term) (f : Bool) (box : List (List ℤ)) (θ : List ℤ) → IsBox box → TermIn (length box) r → IsAt box r (bit f) → InBox box θ → Holds (con.Reif b r f) θ → HoldsBase b θ
must_holds b r f box θ well_formed inside at lies holds = holds.1 (at_val box r (bit f) θ well_formed inside at lies)

denied_fails : (b : Base) (r : Term) (f : Bool) (box : List (List ℤ)) (θ : List ℤ) → IsBox box → TermIn (length box) r → IsAt box r (bit (not f)) → InBox box θ → Holds (con.Reif b r f) θ → HoldsBase b θ → ⊥
denied_fails b r f box θ well_formed inside at lies holds base = differ f (sym (holds.0 base) ∙ at_val box r (bit (not f)) θ well_formed inside at lies)

opposite_holds : (l : Lin) (r : Term) (f : Bool) (box : List (List ℤ)) (θ : List ℤ) → IsBox box → TermIn (length box) r → IsAt box r (bit (not f)) → InBox box θ → Holds (con.Reif (base.Lin l) r f) θ → Holds (con.Base (base.Lin (opposite l))) θ
unfolding opposite
opposite_holds l r f box θ well_formed inside at lies holds = (opposite_stands l.rel l.terms l.r θ).1 (denied_fails (base.Lin l) r f box θ well_formed inside at lies holds)

-- the constraint of a side holds wherever the reified one does
abbrev Follows : Con → Con → List (List ℤ) → Type 0
Follows c d box = (θ : List ℤ) → InBox box θ → Holds c θ → Holds d θ

prunes_as : (c d : Con) (s t : Stored) → Follows c d s.box → Prunes (Holds d) s t → Prunes (Holds c) s t
prunes_as c d s t follows prunes = prunes_within (Holds d) (Holds c) s t prunes follows

prunes_none : (c : Con) (s t : Stored) → t ≡ s → Prunes (Holds c) s t
prunes_none c s t e = subst (λ (x : Stored). Prunes (Holds c) s x) (sym e) (prunes_refl (Holds c) s)

means_as : (c d : Con) (old s t : Stored) (answer : Ran) → Follows c d s.box → Prunes (Holds c) old s → RanMeans d s.box t.box answer → (t.box ≡ old.box → IsOwed t.box d → IsStrong t.box c) → PartsMean c old.box t.box answer
means_as c d old s t ran.Kept follows prunes means strong = λ e. strong e means
means_as c d old s t ran.Empty follows prunes means strong = none_before (Holds c) old.box s.box prunes.loses (λ θ lies holds. means θ lies (follows θ lies holds))
means_as c d old s t ran.EarlyStop follows prunes means strong = let less = smaller (Holds c) old.box s.box prunes.loses in omega (arith, less, means)

means_none : (c : Con) (old s t : Stored) (answer : Ran) → answer ≡ ran.Kept → (t.box ≡ old.box → IsStrong t.box c) → PartsMean c old.box t.box answer
means_none c old s t answer kept strong = subst (PartsMean c old.box t.box) (sym kept) strong

-- ---- the side that is run
at_of : (box : List (List ℤ)) (term r : Term) (flag f : Bool) (to : Bool → Bool) → term ≡ r → flag ≡ f → IsAt box term (bit (to flag)) → IsAt box r (bit (to f))
at_of box term r flag f to same also at = subst (λ x. IsAt box r (bit (to x))) also (subst (λ t. IsAt box t (bit (to flag))) same at)

must_follows : (b : Base) (r : Term) (f : Bool) (d : Con) (box : List (List ℤ)) → d ≡ con.Base b → IsBox box → TermIn (length box) r → IsAt box r (bit f) → Follows (con.Reif b r f) d box
must_follows b r f d box same well_formed inside at θ lies holds = subst (λ (x : Con). Holds x θ) (sym same) (must_holds b r f box θ well_formed inside at lies holds)

denied_follows : (l : Lin) (r : Term) (f : Bool) (d : Con) (box : List (List ℤ)) → d ≡ con.Base (base.Lin (opposite l)) → IsBox box → TermIn (length box) r → IsAt box r (bit (not f)) → Follows (con.Reif (base.Lin l) r f) d box
denied_follows l r f d box same well_formed inside at θ lies holds = subst (λ (x : Con). Holds x θ) (sym same) (opposite_holds l r f box θ well_formed inside at lies holds)

side_prunes : (c : Con) (term : Term) (flag : Bool) (held : Sides) (which : Side) (s t : Stored) → Belongs c term flag held → FitsBox s.box c → IsBox s.box → IsSide s.box term flag which → SidePrunes held which s t → Prunes (Holds c) s t
unfolding IsSide SidePrunes
side_prunes (con.Reif b r f) term flag (sides.Linear must denied) side.Open s t belongs fits_box well_formed is prunes = prunes_none (con.Reif b r f) s t prunes
side_prunes (con.Reif b r f) term flag (sides.Clausal must) side.Open s t belongs fits_box well_formed is prunes = prunes_none (con.Reif b r f) s t prunes
side_prunes (con.Reif (base.Lin l) r f) term flag (sides.Linear must denied) side.Must s t belongs fits_box well_formed is prunes = prunes_as (con.Reif (base.Lin l) r f) must s t (must_follows (base.Lin l) r f must s.box belongs.2.0 well_formed fits_box.kept.1 (at_of s.box term r flag f (λ x. x) belongs.0 belongs.1 is)) prunes
side_prunes (con.Reif (base.Lin l) r f) term flag (sides.Linear must denied) side.Denied s t belongs fits_box well_formed is prunes = prunes_as (con.Reif (base.Lin l) r f) denied s t (denied_follows l r f denied s.box belongs.2.1 well_formed fits_box.kept.1 (at_of s.box term r flag f not belongs.0 belongs.1 is)) prunes
side_prunes (con.Reif (base.Clause c) r f) term flag (sides.Clausal must) side.Must s t belongs fits_box well_formed is prunes = prunes_as (con.Reif (base.Clause c) r f) must s t (must_follows (base.Clause c) r f must s.box belongs.2 well_formed fits_box.kept.1 (at_of s.box term r flag f (λ x. x) belongs.0 belongs.1 is)) prunes
side_prunes (con.Reif (base.Member m) r f) term flag (sides.Clausal must) side.Must s t belongs fits_box well_formed is prunes = prunes_as (con.Reif (base.Member m) r f) must s t (must_follows (base.Member m) r f must s.box belongs.2 well_formed fits_box.kept.1 (at_of s.box term r flag f (λ x. x) belongs.0 belongs.1 is)) prunes
side_prunes (con.Reif (base.Clause c) r f) term flag (sides.Clausal must) side.Denied s t belongs fits_box well_formed is prunes = prunes_none (con.Reif (base.Clause c) r f) s t prunes
side_prunes (con.Reif (base.Member m) r f) term flag (sides.Clausal must) side.Denied s t belongs fits_box well_formed is prunes = prunes_none (con.Reif (base.Member m) r f) s t prunes
side_prunes (con.Reif (base.Clause c) r f) term flag (sides.Linear must denied) side.Must s t belongs fits_box well_formed is prunes = absurd belongs.2
side_prunes (con.Reif (base.Clause c) r f) term flag (sides.Linear must denied) side.Denied s t belongs fits_box well_formed is prunes = absurd belongs.2
side_prunes (con.Reif (base.Member m) r f) term flag (sides.Linear must denied) side.Must s t belongs fits_box well_formed is prunes = absurd belongs.2
side_prunes (con.Reif (base.Member m) r f) term flag (sides.Linear must denied) side.Denied s t belongs fits_box well_formed is prunes = absurd belongs.2
side_prunes (con.Reif (base.Lin l) r f) term flag (sides.Clausal must) side.Must s t belongs fits_box well_formed is prunes = absurd belongs.2
side_prunes (con.Reif (base.Lin l) r f) term flag (sides.Clausal must) side.Denied s t belongs fits_box well_formed is prunes = absurd belongs.2
side_prunes c term flag held which s t belongs fits_box well_formed is prunes = absurd belongs

-- ---- what it means
strong_of : (b : Base) (r : Term) (f : Bool) (box : List (List ℤ)) → IsOwed box (con.Reif b r f) → (IsAt box r (bit f) → BaseIsStrong box b) → (IsAt box r (bit (not f)) → DeniedIsStrong box b) → IsStrong box (con.Reif b r f)
strong_of b r f box owed must denied = record {
  kind = record { shown = owed.kind.shown; refuted = owed.kind.refuted; must = must; denied = denied };
  checked = owed.checked;
}

-- the term can't be at both numbers
apart : (box : List (List ℤ)) (r : Term) (f : Bool) → IsAt box r (bit f) → IsAt box r (bit (not f)) → ⊥
apart box r f at other = differ f (sym at.low ∙ other.low)

module _ (b : Base) (r : Term) (f : Bool) (old s t : Stored) (prunes : Prunes (Holds (con.Reif b r f)) old s) (then : Prunes (Holds (con.Reif b r f)) s t) (owed : IsOwed s.box (con.Reif b r f)) where
  as_then : t.box ≡ old.box → t.box ≡ s.box
  as_then e = e ∙ sym (prunes_still (Holds (con.Reif b r f)) (Holds (con.Reif b r f)) old s t prunes then e)

  owed_then : t.box ≡ old.box → IsOwed t.box (con.Reif b r f)
  owed_then e = subst (λ (x : List (List ℤ)). IsOwed x (con.Reif b r f)) (sym (as_then e)) owed

  at_then : (v : ℤ) → t.box ≡ old.box → IsAt s.box r v → IsAt t.box r v
  at_then v e at = subst (λ (x : List (List ℤ)). IsAt x r v) (sym (as_then e)) at

  at_before : (v : ℤ) → t.box ≡ old.box → IsAt t.box r v → IsAt s.box r v
  at_before v e at = subst (λ (x : List (List ℤ)). IsAt x r v) (as_then e) at

  must_strong : (d : Con) → d ≡ con.Base b → IsAt s.box r (bit f) → t.box ≡ old.box → IsOwed t.box d → IsStrong t.box (con.Reif b r f)
  must_strong d same at e done = strong_of b r f t.box (owed_then e)
      (λ here. (subst (IsOwed t.box) same done).kind)
      (λ there. absurd (apart s.box r f at (at_before (bit (not f)) e there)))

  open_strong : (IsAt s.box r (bit f) → ⊥) → (IsAt s.box r (bit (not f)) → ⊥) → t.box ≡ old.box → IsStrong t.box (con.Reif b r f)
  open_strong never nor e = strong_of b r f t.box (owed_then e)
      (λ here. absurd (never (at_before (bit f) e here)))
      (λ there. absurd (nor (at_before (bit (not f)) e there)))

  denied_strong : IsAt s.box r (bit (not f)) → t.box ≡ old.box → DeniedIsStrong t.box b → IsStrong t.box (con.Reif b r f)
  denied_strong at e denied = strong_of b r f t.box (owed_then e)
      (λ here. absurd (apart s.box r f (at_before (bit f) e here) at))
      (λ there. denied)

opposite_done : (l : Lin) (box : List (List ℤ)) → IsOwed box (con.Base (base.Lin (opposite l))) → DeniedIsStrong box (base.Lin l)
unfolding opposite
opposite_done l box done = opposite_strong box l.rel l.terms l.r done.kind

never_of : (box : List (List ℤ)) (term r : Term) (flag f : Bool) (to : Bool → Bool) → term ≡ r → flag ≡ f → (IsAt box term (bit (to flag)) → ⊥) → IsAt box r (bit (to f)) → ⊥
never_of box term r flag f to same also never at = never (at_of box r term f flag to (sym same) (sym also) at)

settles : (c : Con) (term : Term) (flag : Bool) (held : Sides) (which : Side) (old s t : Stored) (answer : Ran) → Belongs c term flag held → FitsBox s.box c → IsBox s.box → IsSide s.box term flag which → Prunes (Holds c) old s → IsOwed s.box c → SidePrunes held which s t → Prunes (Holds c) s t → SideMeans held which s.box t.box answer → PartsMean c old.box t.box answer
unfolding IsSide SidePrunes SideMeans
settles (con.Reif b r f) term flag (sides.Linear must denied) side.Open old s t answer belongs fits_box well_formed is prunes owed ran then means =
    means_none (con.Reif b r f) old s t answer means (open_strong b r f old s t prunes then owed (never_of s.box term r flag f (λ x. x) belongs.0 belongs.1 is.0) (never_of s.box term r flag f not belongs.0 belongs.1 is.1))
settles (con.Reif b r f) term flag (sides.Clausal must) side.Open old s t answer belongs fits_box well_formed is prunes owed ran then means =
    means_none (con.Reif b r f) old s t answer means (open_strong b r f old s t prunes then owed (never_of s.box term r flag f (λ x. x) belongs.0 belongs.1 is.0) (never_of s.box term r flag f not belongs.0 belongs.1 is.1))
settles (con.Reif (base.Lin l) r f) term flag (sides.Linear must denied) side.Must old s t answer belongs fits_box well_formed is prunes owed ran then means =
    let at = at_of s.box term r flag f (λ x. x) belongs.0 belongs.1 is in
    means_as _ must old s t answer (must_follows (base.Lin l) r f must s.box belongs.2.0 well_formed fits_box.kept.1 at) prunes means (must_strong (base.Lin l) r f old s t prunes then owed must belongs.2.0 at)
settles (con.Reif (base.Lin l) r f) term flag (sides.Linear must denied) side.Denied old s t answer belongs fits_box well_formed is prunes owed ran then means =
    let at = at_of s.box term r flag f not belongs.0 belongs.1 is in
    means_as _ denied old s t answer (denied_follows l r f denied s.box belongs.2.1 well_formed fits_box.kept.1 at) prunes means (λ e done. denied_strong (base.Lin l) r f old s t prunes then owed at e (opposite_done l t.box (subst (IsOwed t.box) belongs.2.1 done)))
settles (con.Reif (base.Clause c) r f) term flag (sides.Clausal must) side.Must old s t answer belongs fits_box well_formed is prunes owed ran then means =
    let at = at_of s.box term r flag f (λ x. x) belongs.0 belongs.1 is in
    means_as _ must old s t answer (must_follows (base.Clause c) r f must s.box belongs.2 well_formed fits_box.kept.1 at) prunes means (must_strong (base.Clause c) r f old s t prunes then owed must belongs.2 at)
settles (con.Reif (base.Member m) r f) term flag (sides.Clausal must) side.Must old s t answer belongs fits_box well_formed is prunes owed ran then means =
    let at = at_of s.box term r flag f (λ x. x) belongs.0 belongs.1 is in
    means_as _ must old s t answer (must_follows (base.Member m) r f must s.box belongs.2 well_formed fits_box.kept.1 at) prunes means (must_strong (base.Member m) r f old s t prunes then owed must belongs.2 at)
settles (con.Reif (base.Clause c) r f) term flag (sides.Clausal must) side.Denied old s t answer belongs fits_box well_formed is prunes owed ran then means =
    let at = at_of s.box term r flag f not belongs.0 belongs.1 is in
    means_none _ old s t answer means (λ e. let now = owed_then (base.Clause c) r f old s t prunes then owed e in denied_strong (base.Clause c) r f old s t prunes then owed at e (now.kind.denied (at_then (base.Clause c) r f old s t prunes then owed (bit (not f)) e at)))
settles (con.Reif (base.Member m) r f) term flag (sides.Clausal must) side.Denied old s t answer belongs fits_box well_formed is prunes owed ran then means =
    let at = at_of s.box term r flag f not belongs.0 belongs.1 is in
    means_none _ old s t answer means (λ e. let now = owed_then (base.Member m) r f old s t prunes then owed e in denied_strong (base.Member m) r f old s t prunes then owed at e (now.kind.denied (at_then (base.Member m) r f old s t prunes then owed (bit (not f)) e at)))
settles (con.Reif (base.Clause c) r f) term flag (sides.Linear must denied) side.Must old s t answer belongs fits_box well_formed is prunes owed ran then means = absurd belongs.2
settles (con.Reif (base.Clause c) r f) term flag (sides.Linear must denied) side.Denied old s t answer belongs fits_box well_formed is prunes owed ran then means = absurd belongs.2
settles (con.Reif (base.Member m) r f) term flag (sides.Linear must denied) side.Must old s t answer belongs fits_box well_formed is prunes owed ran then means = absurd belongs.2
settles (con.Reif (base.Member m) r f) term flag (sides.Linear must denied) side.Denied old s t answer belongs fits_box well_formed is prunes owed ran then means = absurd belongs.2
settles (con.Reif (base.Lin l) r f) term flag (sides.Clausal must) side.Must old s t answer belongs fits_box well_formed is prunes owed ran then means = absurd belongs.2
settles (con.Reif (base.Lin l) r f) term flag (sides.Clausal must) side.Denied old s t answer belongs fits_box well_formed is prunes owed ran then means = absurd belongs.2
settles c term flag held which old s t answer belongs fits_box well_formed is prunes owed ran then means = absurd belongs

settled_by : {E : Type 0} (c : Con) (term : Term) (flag : Bool) (held : Sides) (which : Side) (old s t : Stored) (result : Result Ran E) → Belongs c term flag held → FitsBox s.box c → IsBox s.box → IsSide s.box term flag which → Prunes (Holds c) old s → IsOwed s.box c → SidePrunes held which s t → IfOk result (SideMeans held which s.box t.box) → IfOk result (PartsMean c old.box t.box)
settled_by c term flag held which old s t (Ok answer) belongs fits_box well_formed is prunes owed then means = settles c term flag held which old s t answer belongs fits_box well_formed is prunes owed then (side_prunes c term flag held which s t belongs fits_box well_formed is then) means
settled_by c term flag held which old s t (Err e) belongs fits_box well_formed is prunes owed then means = tt

-- after a run of the constraint's own propagator
pub term_after : (c : Con) (term : Term) (flag : Bool) (held : Sides) (r s : Stored) → Belongs c term flag held → FitsBox r.box c → Prunes (Holds c) r s → TermIn (length s.box) term
term_after c term flag held r s belongs fits_box prunes = term_in c term flag held s.box belongs (fits_pruned c c r s prunes refl fits_box)

pub sides_after : (c : Con) (term : Term) (flag : Bool) (held : Sides) (r s : Stored) → Belongs c term flag held → FitsBox r.box c → Prunes (Holds c) r s → CanHold c → SidesFit held s.box
sides_after c term flag held r s belongs fits_box prunes able = sides_fit c term flag held s.box belongs (fits_pruned c c r s prunes refl fits_box) able

pub sides_prune : (c : Con) (term : Term) (flag : Bool) (held : Sides) (which : Side) (r s t : Stored) → Belongs c term flag held → FitsBox r.box c → Prunes (Holds c) r s → IsBox s.box → IsSide s.box term flag which → SidePrunes held which s t → Prunes (Holds c) r t
sides_prune c term flag held which r s t belongs fits_box prunes well_formed is then = prunes_trans (Holds c) r s t prunes (side_prunes c term flag held which s t belongs (fits_pruned c c r s prunes refl fits_box) well_formed is then)

pub sides_settle : {E : Type 0} (c : Con) (term : Term) (flag : Bool) (held : Sides) (which : Side) (r s t : Stored) (result : Result Ran E) → Belongs c term flag held → FitsBox r.box c → Prunes (Holds c) r s → IsBox s.box → IsSide s.box term flag which → IsOwed s.box c → SidePrunes held which s t → IfOk result (SideMeans held which s.box t.box) → IfOk result (PartsMean c r.box t.box)
sides_settle c term flag held which r s t result belongs fits_box prunes well_formed is owed then means = settled_by c term flag held which r s t result belongs (fits_pruned c c r s prunes refl fits_box) well_formed is prunes owed then means

-- ---- runs of the parts in a row
pub parts_none : (c : Con) (a b : Stored) → Prunes (Holds c) a b → HasNone (Holds c) b.box → HasNone (Holds c) a.box
parts_none c a b prunes none = none_before (Holds c) a.box b.box prunes.loses none

pub parts_far : (c : Con) (a b d : Stored) → Prunes (Holds c) a b → FallsFar b.box d.box → FallsFar a.box d.box
parts_far c a b d prunes far = let less = smaller (Holds c) a.box b.box prunes.loses in omega (arith, less, far)

pub parts_kept : (c : Con) (a b : Stored) → Prunes (Holds c) a b → box_size b.box ≡ box_size a.box → (b.box ≡ a.box → IsStrong b.box c) → IsStrong b.box c
parts_kept c a b prunes size strong = strong (same_size (Holds c) a.box b.box prunes.loses size)

pub parts_less : (c : Con) (a b : Stored) → Prunes (Holds c) a b → (box_size b.box ≡ box_size a.box → ⊥) → box_size b.box < box_size a.box
parts_less c a b prunes differs = let most : box_size b.box ≤ box_size a.box = smaller (Holds c) a.box b.box prunes.loses in omega (arith, most)
