-- Steps that conclude only while the box is as it was first.
use Rattle.std.proofs.Common.{ℕ, ◌+◌, ◌<◌, List, length, sym, subst}
use Rattle.std.specs.Prelude.{ℤ, slice_index_or, Contains}
use Rattle.fzn_model.specs.declared.term.Term.{Term}
use Rattle.fzn_model.specs.declared.con.Con.TheVariants as con
use Rattle.fzn_model.specs.Meaning.{Holds}
use Rattle.fzn_model.specs.Bounds.{term_low}
use Rattle.dom_store.specs.declared.pass.Passed.{Passed}
use Rattle.dom_store.specs.declared.pass.Passed.TheVariants as passed
use Rattle.dom_store.specs.Stores.{Stored}
use Rattle.dom_store.specs.Steps.{Step, EachTo}
use Rattle.dom_store.proofs.Stepping.{step_as, step_idle, each_more}
use Rattle.alldiff_prop.specs.Highs.{AreLows}
use Rattle.alldiff_prop.specs.Halls.{IsNarrowedFrom, AreNarrowed}
use Rattle.alldiff_prop.specs.Spans.{AreSpans, IsClearFrom, IsNarrowedSince}
use Rattle.alldiff_prop.proofs.Spanning.{clear_from}

-- a number from which all is clear
pub clear_since : (xs : List Term) (taken : List ℤ) (spans : List (ℤ × ℤ)) (lows : List ℤ) (i : ℕ) (e : ℤ) (first now : Stored) → i < length lows → AreSpans first.box xs spans → IsClearFrom taken (slice_index_or lows i e) spans
    → Step (EachTo (IsNarrowedSince first.box xs taken) lows i) (Holds (con.AllDiffExcept xs taken)) first now passed.Done → Step (EachTo (IsNarrowedSince first.box xs taken) lows (i + 1)) (Holds (con.AllDiffExcept xs taken)) first now passed.Done
unfolding IsNarrowedSince
clear_since xs taken spans lows i e first now h are clear step =
    each_more (IsNarrowedSince first.box xs taken) lows i e (Holds (con.AllDiffExcept xs taken)) first now now h step
    (step_idle (IsNarrowedSince first.box xs taken (slice_index_or lows i e)) (Holds (con.AllDiffExcept xs taken)) now step.well_formed
    (λ same. subst (IsNarrowedFrom xs taken (slice_index_or lows i e)) (sym same) (clear_from first.box xs taken (slice_index_or lows i e) spans are clear)))

-- one from which all was narrowed
pub narrowed_since : (xs : List Term) (taken : List ℤ) (low : ℤ) (first old new : Stored) (result : Passed) → Step (IsNarrowedFrom xs taken low) (Holds (con.AllDiffExcept xs taken)) old new result → Step (IsNarrowedSince first.box xs taken low) (Holds (con.AllDiffExcept xs taken)) old new result
unfolding IsNarrowedSince
narrowed_since xs taken low first old new result step = step_as (IsNarrowedFrom xs taken low) (IsNarrowedSince first.box xs taken low) (Holds (con.AllDiffExcept xs taken)) old new result (λ same is. λ as_first. is) step

-- so from the least value of each member
pub narrowed_all : (xs : List Term) (taken lows : List ℤ) (old new : Stored) (result : Passed) → AreLows old.box xs lows → Step (EachTo (IsNarrowedSince old.box xs taken) lows (length lows)) (Holds (con.AllDiffExcept xs taken)) old new result → Step (AreNarrowed xs taken) (Holds (con.AllDiffExcept xs taken)) old new result
unfolding EachTo AreNarrowed IsNarrowedSince
narrowed_all xs taken lows old new result are step =
    step_as (EachTo (IsNarrowedSince old.box xs taken) lows (length lows)) (AreNarrowed xs taken) (Holds (con.AllDiffExcept xs taken)) old new result
    (λ same each k d h.
    let at : Contains lows (term_low new.box (slice_index_or xs k d)) = subst (λ box. Contains lows (term_low box (slice_index_or xs k d))) (sym same) (are.all k d h) in
    subst (λ low. IsNarrowedFrom xs taken low new.box) at.2 (each at.0 (term_low new.box (slice_index_or xs k d)) at.1 same))
    step
