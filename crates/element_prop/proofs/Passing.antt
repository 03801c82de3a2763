-- Steps of a pass in a row.
use Rattle.std.proofs.Common.{◌≡◌, ℕ, ◌+◌, List, length, sym, ◌∙◌, arith, subst}
use Rattle.std.specs.Prelude.{ℤ}
use Rattle.std.proofs.lemmas.Int.{ints}
use Rattle.fzn_model.specs.declared.term.Term.{Term}
use Rattle.fzn_model.specs.declared.con.Con.TheVariants as con
use Rattle.fzn_model.specs.Meaning.{Holds}
use Rattle.fzn_model.specs.Boxes.{IsBox}
use Rattle.dom_store.specs.Stores.{Stored}
use Rattle.fzn_model.specs.Booleans.{FitsBox}
use Rattle.dom_store.specs.Narrowing.{Prunes}
use Rattle.dom_store.proofs.Laws.{none_before, prunes_still, term_stays, low_rises, high_falls}
use Rattle.element_prop.specs.Places.{IsReady, IsIndexed, IsImpossible, MeetsAt, MeetsBefore, IsWithin, IsJoined}
use Rattle.element_prop.proofs.Meeting.{meets_more}

pub none_at_first : (i : Term) (xs : List Term) (c : Term) (a b : Stored) → Prunes (Holds (con.Element i xs c)) a b → IsImpossible b.box i xs c → IsImpossible a.box i xs c
unfolding IsImpossible
none_at_first i xs c a b runs none = none_before (Holds (con.Element i xs c)) a.box b.box runs.loses none

pub ready_first : (box : List (List ℤ)) (i : Term) (xs : List Term) (c : Term) → IsBox box → FitsBox box (con.Element i xs c) → IsReady box i xs c
ready_first box i xs c well_formed fits_box = record {
  well_formed = well_formed;
  index = fits_box.kept.0;
  count = fits_box.kept.1.count;
  members = fits_box.kept.1.terms;
  chosen = fits_box.kept.2;
}

pub ready_on : (Q : List ℤ → Type 0) (i : Term) (xs : List Term) (c : Term) (old new : Stored) → Prunes Q old new → IsBox new.box → IsReady old.box i xs c → IsReady new.box i xs c
ready_on Q i xs c old new runs well_formed ready = record {
  well_formed = well_formed;
  index = term_stays _ old.box new.box i runs.loses ready.index;
  count = ready.count;
  members = λ k d h. term_stays _ old.box new.box _ runs.loses (ready.members k d h);
  chosen = term_stays _ old.box new.box c runs.loses ready.chosen;
}

-- one place more
pub meets_again : (Q : List ℤ → Type 0) (i : Term) (xs : List Term) (c : Term) (k : ℕ) (a b d : Stored) → Prunes Q a b → Prunes Q b d → (b.box ≡ a.box → MeetsBefore a.box i xs c k) → MeetsAt d.box i xs c k → d.box ≡ a.box → MeetsBefore a.box i xs c (k + 1)
meets_again Q i xs c k a b d first second before meets e = meets_more a.box i xs c k (before (prunes_still Q Q a b d first second e)) (subst (λ box. MeetsAt box i xs c k) e meets)

pub indexed_on : (i : Term) (xs : List Term) (c : Term) (old new : Stored) → Prunes (Holds (con.Element i xs c)) old new → IsReady old.box i xs c → IsBox new.box → IsIndexed old.box i (length xs) → IsIndexed new.box i (length xs)
indexed_on i xs c old new runs ready well_formed indexed =
    let rises = low_rises _ old.box new.box i ready.well_formed well_formed runs.loses ready.index in
    let falls = high_falls _ old.box new.box i ready.well_formed well_formed runs.loses ready.index in
    record { low = omega (arith, ints, rises, indexed.low); high = omega (arith, ints, falls, indexed.high) }

-- what the first of two steps says of the box at the start
pub within_first : (i : Term) (xs : List Term) (c : Term) (a b d : Stored) → Prunes (Holds (con.Element i xs c)) a b → Prunes (Holds (con.Element i xs c)) b d → (b.box ≡ a.box → IsWithin a.box i xs c) → d.box ≡ a.box → IsWithin a.box i xs c
within_first i xs c a b d first second within e = within (prunes_still (Holds (con.Element i xs c)) (Holds (con.Element i xs c)) a b d first second e)

pub meets_first : (i : Term) (xs : List Term) (c : Term) (k : ℕ) (a b d : Stored) → Prunes (Holds (con.Element i xs c)) a b → Prunes (Holds (con.Element i xs c)) b d → (b.box ≡ a.box → MeetsBefore a.box i xs c k) → d.box ≡ a.box → MeetsBefore a.box i xs c k
meets_first i xs c k a b d first second meets e = meets (prunes_still (Holds (con.Element i xs c)) (Holds (con.Element i xs c)) a b d first second e)

-- what the second says
pub within_second : (i : Term) (xs : List Term) (c : Term) (a b d : Stored) → Prunes (Holds (con.Element i xs c)) a b → Prunes (Holds (con.Element i xs c)) b d → (d.box ≡ b.box → IsWithin b.box i xs c) → d.box ≡ a.box → IsWithin a.box i xs c
within_second i xs c a b d first second within e =
    let same : b.box ≡ a.box = prunes_still (Holds (con.Element i xs c)) (Holds (con.Element i xs c)) a b d first second e in
    subst (λ box. IsWithin box i xs c) same (within (e ∙ sym same))

pub meets_second : (i : Term) (xs : List Term) (c : Term) (k : ℕ) (a b d : Stored) → Prunes (Holds (con.Element i xs c)) a b → Prunes (Holds (con.Element i xs c)) b d → (d.box ≡ b.box → MeetsBefore b.box i xs c k) → d.box ≡ a.box → MeetsBefore a.box i xs c k
meets_second i xs c k a b d first second meets e =
    let same : b.box ≡ a.box = prunes_still (Holds (con.Element i xs c)) (Holds (con.Element i xs c)) a b d first second e in
    subst (λ box. MeetsBefore box i xs c k) same (meets (e ∙ sym same))

pub joined_second : (Q : List ℤ → Type 0) (i : Term) (xs : List Term) (c : Term) (a b d : Stored) → Prunes Q a b → Prunes Q b d → (d.box ≡ b.box → IsJoined b.box i xs c) → d.box ≡ a.box → IsJoined a.box i xs c
joined_second Q i xs c a b d first second joined e =
    let same : b.box ≡ a.box = prunes_still Q Q a b d first second e in
    subst (λ box. IsJoined box i xs c) same (joined (e ∙ sym same))
