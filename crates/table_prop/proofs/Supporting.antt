-- The columns that the possible rows leave, and what is owed.
use Rattle.std.proofs.Common.{◌≡◌, ℕ, ◌+◌, ◌*◌, ◌<◌, List, length, refl, sym, subst, ◌∙◌, arith, below_more, inl}
use Rattle.std.specs.Prelude.{ℤ, pos, Contains, All, slice_index_or, Result, Ok, Err, IfOk}
use Rattle.std.proofs.lemmas.Int.{ints}
use Rattle.std.proofs.lemmas.List.{get_or_default}
use Rattle.std.proofs.lemmas.List.Elements.{All-contains, Contains-get_or}
use Rattle.fzn_model.specs.declared.term.Term.{Term}
use Rattle.fzn_model.specs.declared.term.Term.TheVariants as term
use Rattle.fzn_model.specs.declared.con.Con.TheVariants as con
use Rattle.fzn_model.specs.Limits.{TermIn}
use Rattle.fzn_model.specs.Meaning.{val, Holds, IsRow, HasRow}
use Rattle.fzn_model.specs.Boxes.{IsBox, InBox}
use Rattle.dom_store.specs.declared.pass.Passed.{Passed}
use Rattle.dom_store.specs.declared.pass.Passed.TheVariants as passed
use Rattle.dom_store.specs.Stores.{Stored}
use Rattle.fzn_model.specs.Bounds.{term_low, term_high, TermHas, IsFixed, IsLookedAt}
use Rattle.dom_store.specs.Strength.{TableIsStrong, IsChecked, IsOwed}
use Rattle.fzn_model.specs.Booleans.{FitsBox}
use Rattle.dom_store.specs.Narrowing.{Prunes}
use Rattle.dom_store.specs.Passes.{Concludes}
use Rattle.fzn_model.proofs.Terms.{has_low, has_between, fixed_val}
use Rattle.dom_store.specs.Steps.{Spares, Reaches, Step, NarrowsTerm}
use Rattle.dom_store.proofs.Laws.{term_stays, in_before}
use Rattle.table_prop.specs.Among.{IsAmong, HasAll, ValueIsAmong, AreAmong}
use Rattle.table_prop.specs.Rows.{IsReady, IsSettled, IsPossible, ArePossible, IsRowAt, AreChosen, IsEntry, AreEntries, IsSupported, AreSupported}
use Rattle.dom_store.proofs.Stepping.{narrowed, Box, step_idle, step_then, step_end_after, step_as}
use Rattle.table_prop.proofs.Finding.{range_entry}

-- ---- one column
-- each assignment with the constraint gives the column an entry of a row found
spares : (box : Box) (xs : List Term) (rows : List ℤ) (found : List ℕ) (column : ℕ) (d : Term) (vs : List ℤ) → AreChosen box xs rows found → column < length xs → AreEntries rows (length xs) column found vs
    → Spares (IsAmong vs) (Holds (con.Table xs rows)) (slice_index_or xs column d) box
unfolding IsAmong IsRowAt
spares box xs rows found column d vs chosen h are θ lies holds =
    let one = chosen.one θ lies holds in
    subst (Contains vs) (one.2 column d h) (are.all one.0 one.1)

-- a column can have each entry of the possible rows
has_all : (box : Box) (xs : List Term) (rows : List ℤ) (found : List ℕ) (column : ℕ) (d : Term) (vs : List ℤ) → column < length xs → AreEntries rows (length xs) column found vs → All (IsPossible box xs rows) found → HasAll (slice_index_or xs column d) vs box
unfolding HasAll IsEntry
has_all box xs rows found column d vs h are possible z there =
    let at = are.each z there in
    let row = All-contains (IsPossible box xs rows) found at.0 possible at.1 in
    subst (TermHas box (slice_index_or xs column d)) at.2 (row.has column d h)

supported_from : (box : Box) (xs : List Term) (rows : List ℤ) (found : List ℕ) (column : ℕ) (d : Term) (vs : List ℤ) → column < length xs → AreEntries rows (length xs) column found vs → AreAmong (slice_index_or xs column d) vs box → IsSupported xs rows found column box
unfolding IsSupported AreAmong ValueIsAmong IsAmong
supported_from box xs rows found column d vs h are among possible e v at =
    are.each v (among (has_all box xs rows found column d vs h are possible) v (subst (λ t. IsLookedAt box t v) (get_or_default xs column e d h) at))

pub column_steps : (xs : List Term) (rows : List ℤ) (found : List ℕ) (column : ℕ) (d : Term) (vs : List ℤ) (old new : Stored) (result : Passed) → AreChosen old.box xs rows found → column < length xs → AreEntries rows (length xs) column found vs
    → NarrowsTerm (IsAmong vs) (AreAmong (slice_index_or xs column d) vs) (slice_index_or xs column d) old new result → Step (IsSupported xs rows found column) (Holds (con.Table xs rows)) old new result
column_steps xs rows found column d vs old new result chosen h are move =
    step_as (AreAmong (slice_index_or xs column d) vs) (IsSupported xs rows found column) (Holds (con.Table xs rows)) old new result (λ same among. supported_from new.box xs rows found column d vs h are among) (narrowed (Holds (con.Table xs rows)) move (spares old.box xs rows found column d vs chosen h are))

-- where a column has one value, it is an entry of each possible row
settled_from : (box : Box) (xs : List Term) (rows : List ℤ) (found : List ℕ) (column : ℕ) → IsReady box xs → column < length xs → IsSettled box xs found column → IsSupported xs rows found column box
unfolding IsSupported IsEntry
settled_from box xs rows found column ready h settled possible d v at =
    let row = possible 0 0 settled.some in
    let t : Term = slice_index_or xs column d in
    let own = has_between box t _ ready.well_formed (ready.columns column d h) (row.has column d h) in
    let looked = has_between box t v ready.well_formed (ready.columns column d h) at.has in
    let fixed : term_low box t ≡ term_high box t = settled.fixed d in
    (slice_index_or found 0 0, Contains-get_or found 0 0 settled.some, omega (arith, ints, own.0, own.1, looked.0, looked.1, fixed))

pub settled_steps : (xs : List Term) (rows : List ℤ) (found : List ℕ) (column : ℕ) (s : Stored) → IsReady s.box xs → column < length xs → IsSettled s.box xs found column → Step (IsSupported xs rows found column) (Holds (con.Table xs rows)) s s passed.Done
settled_steps xs rows found column s ready h settled = step_idle (IsSupported xs rows found column) (Holds (con.Table xs rows)) s ready.well_formed (settled_from s.box xs rows found column ready h settled)

-- ---- column after column
pub ready_first : (box : Box) (xs : List Term) (rows : List ℤ) → IsBox box → FitsBox box (con.Table xs rows) → IsReady box xs
ready_first box xs rows well_formed fits_box = record { well_formed = well_formed; some = fits_box.kept.columns.some; columns = fits_box.kept.columns.terms.terms }

pub ready_on : (xs : List Term) (rows : List ℤ) (old new : Stored) → Prunes (Holds (con.Table xs rows)) old new → IsBox new.box → IsReady old.box xs → IsReady new.box xs
ready_on xs rows old new runs well_formed ready = record {
  well_formed = well_formed;
  some = ready.some;
  columns = λ k d h. term_stays _ old.box new.box _ runs.loses (ready.columns k d h);
}

pub chosen_on : (xs : List Term) (rows : List ℤ) (found : List ℕ) (old new : Stored) → Prunes (Holds (con.Table xs rows)) old new → AreChosen old.box xs rows found → AreChosen new.box xs rows found
chosen_on xs rows found old new runs chosen = record {
  each = chosen.each;
  one = λ θ lies holds. chosen.one θ (in_before _ old.box new.box θ runs.loses lies) holds;
}

pub columns_none : (xs : List Term) (rows : List ℤ) (found : List ℕ) (s : Stored) → IsBox s.box → Step (AreSupported xs rows found 0) (Holds (con.Table xs rows)) s s passed.Done
unfolding AreSupported
columns_none xs rows found s well_formed = step_idle (AreSupported xs rows found 0) (Holds (con.Table xs rows)) s well_formed (λ j h. absurd (omega (arith, h)))

more_supported : (xs : List Term) (rows : List ℤ) (found : List ℕ) (n : ℕ) (box : Box) → AreSupported xs rows found n box → IsSupported xs rows found n box → AreSupported xs rows found (n + 1) box
unfolding AreSupported
more_supported xs rows found n box before here = below_more (λ j. IsSupported xs rows found j box) n before here

pub columns_more : (xs : List Term) (rows : List ℤ) (found : List ℕ) (n : ℕ) (a b d : Stored) → Step (AreSupported xs rows found n) (Holds (con.Table xs rows)) a b passed.Done → Step (IsSupported xs rows found n) (Holds (con.Table xs rows)) b d passed.Done
    → Step (AreSupported xs rows found (n + 1)) (Holds (con.Table xs rows)) a d passed.Done
columns_more xs rows found n a b d first then =
    step_then (AreSupported xs rows found n) (IsSupported xs rows found n) (AreSupported xs rows found (n + 1)) (Holds (con.Table xs rows)) a b d passed.Done (λ before here. more_supported xs rows found n d.box before here) first then

pub columns_end : (xs : List Term) (rows : List ℤ) (found : List ℕ) (n m : ℕ) (a b d : Stored) → Step (AreSupported xs rows found n) (Holds (con.Table xs rows)) a b passed.Done → Step (IsSupported xs rows found n) (Holds (con.Table xs rows)) b d passed.Empty
    → Step (AreSupported xs rows found m) (Holds (con.Table xs rows)) a d passed.Empty
columns_end xs rows found n m a b d first then = step_end_after (AreSupported xs rows found n) (IsSupported xs rows found n) (AreSupported xs rows found m) (Holds (con.Table xs rows)) a b d first then

-- ---- what is owed
table_strong : (box : Box) (xs : List Term) (rows : List ℤ) (found : List ℕ) → All (IsPossible box xs rows) found → AreSupported xs rows found (length xs) box → TableIsStrong box xs rows
unfolding TableIsStrong AreSupported IsSupported IsEntry
table_strong box xs rows found possible supported j d h v at =
    let from = supported j h possible d v at in
    let row = All-contains (IsPossible box xs rows) found from.0 possible from.1 in
    (from.0, row.number.inside, from.2, row.has)

-- a fixed term has one value
one_value : (box : Box) (t : Term) (v : ℤ) (θ : List ℤ) → IsBox box → TermIn (length box) t → IsFixed box t → InBox box θ → TermHas box t v → v ≡ val t θ
one_value box t v θ well_formed inside fixed lies has =
    let between = has_between box t v well_formed inside has in
    let value = fixed_val box t θ well_formed inside fixed lies in
    omega (arith, ints, between.0, between.1, value, fixed)

-- where all columns are fixed, the constraint holds
table_checked : (box : Box) (xs : List Term) (rows : List ℤ) → IsReady box xs → TableIsStrong box xs rows → IsChecked box (con.Table xs rows)
unfolding TableIsStrong IsChecked HasRow IsRow
table_checked box xs rows ready strong all θ lies =
    let first = slice_index_or xs 0 (term.Const (pos 0)) in
    let looked : IsLookedAt box first (term_low box first) = record { has = has_low box first ready.well_formed (ready.columns 0 (term.Const (pos 0)) ready.some); bound = λ wide. inl refl } in
    let row = strong 0 (term.Const (pos 0)) ready.some (term_low box first) looked in (
      row.0,
      row.1,
      λ j d h.
          range_entry rows (row.0 * length xs) (length xs) j h ∙ one_value box (slice_index_or xs j d) _ θ ready.well_formed (ready.columns j d h) (all j d h) lies (row.3 j d h),
    )

table_owed : (box : Box) (xs : List Term) (rows : List ℤ) (found : List ℕ) → IsReady box xs → All (IsPossible box xs rows) found → AreSupported xs rows found (length xs) box → IsOwed box (con.Table xs rows)
table_owed box xs rows found ready possible supported =
    let strong = table_strong box xs rows found possible supported in
    record { kind = strong; checked = table_checked box xs rows ready strong }

pub table_concludes : (xs : List Term) (rows : List ℤ) (found : List ℕ) (n : ℕ) (old new : Stored) (answer : Passed) → IsReady old.box xs → ArePossible old.box xs rows n found → Step (AreSupported xs rows found (length xs)) (Holds (con.Table xs rows)) old new answer
    → Concludes (con.Table xs rows) old.box new.box answer
unfolding Reaches
table_concludes xs rows found n old new passed.Done ready possible step = λ same.
    let owed = table_owed old.box xs rows found ready possible.each (subst (AreSupported xs rows found (length xs)) same (step.reaches same)) in
    subst (λ box. IsOwed box (con.Table xs rows)) (sym same) owed
table_concludes xs rows found n old new passed.Empty ready possible step = step.reaches

pub table_says : {E : Type 0} (xs : List Term) (rows : List ℤ) (found : List ℕ) (n : ℕ) (old new : Stored) (result : Result Passed E) → IsReady old.box xs → ArePossible old.box xs rows n found
    → IfOk result (Step (AreSupported xs rows found (length xs)) (Holds (con.Table xs rows)) old new) → IfOk result (Concludes (con.Table xs rows) old.box new.box)
table_says xs rows found n old new (Ok answer) ready possible step = table_concludes xs rows found n old new answer ready possible step
table_says xs rows found n old new (Err e) ready possible step = step
