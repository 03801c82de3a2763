-- The index, and the places of a list that it can have.
use Rattle.std.specs.Prelude.{◌≡◌, ℕ, ◌+◌, ◌<◌, ◌≤◌, List, length, slice_index_or, ℤ, pos, ◌≤ℤ◌, All}
use Rattle.fzn_model.specs.declared.term.Term.{Term}
use Rattle.fzn_model.specs.declared.term.Term.TheVariants as term
use Rattle.fzn_model.specs.declared.con.Con.TheVariants as con
use Rattle.fzn_model.specs.Meaning.{Holds}
use Rattle.fzn_model.specs.Limits.{TermIn}
use Rattle.fzn_model.specs.Boxes.{IsBox}
use Rattle.fzn_model.specs.Bounds.{term_low, term_high, IsFixed, IsLookedAt}
use Rattle.dom_store.specs.Strength.{HullsMeet, IsPlace}
use Rattle.dom_store.specs.Narrowing.{HasNone}

-- the member in a place
abbrev pub member : List Term → ℕ → Term
member xs k = slice_index_or xs k (term.Const (pos 0))

-- a box with the variables of the constraint
pub record IsReady (box : List (List ℤ)) (i : Term) (xs : List Term) (c : Term) : Type 0 where
  pub well_formed : IsBox box
  pub index : TermIn (length box) i
  pub count : length xs ≤ 2000000
  pub members : All (TermIn (length box)) xs
  pub chosen : TermIn (length box) c

-- no assignment of the box has the constraint
unfoldable pub IsImpossible : List (List ℤ) → Term → List Term → Term → Type 0
IsImpossible box i xs c = HasNone (Holds (con.Element i xs c)) box

-- each value of the index is the number of a place, which counts from 1
pub record IsIndexed (box : List (List ℤ)) (i : Term) (count : ℕ) : Type 0 where
  pub low : pos 1 ≤ℤ term_low box i
  pub high : term_high box i ≤ℤ pos count

-- the hulls of two terms have no number in common
unfoldable pub AreApart : List (List ℤ) → Term → Term → Type 0
AreApart box x c = HullsMeet box x c → ⊥

-- where the index is looked at in this place, the hull of the member there meets that of the chosen one
unfoldable pub MeetsAt : List (List ℤ) → Term → List Term → Term → ℕ → Type 0
MeetsAt box i xs c k = IsLookedAt box i (pos (k + 1)) → HullsMeet box (member xs k) c

-- the places before a number of them do
unfoldable pub MeetsBefore : List (List ℤ) → Term → List Term → Term → ℕ → Type 0
MeetsBefore box i xs c n = (k : ℕ) → k < n → MeetsAt box i xs c k

-- no place before a number of them, that the index can have, has a member with a lesser low, or a greater high
unfoldable pub IsLeastBefore : List (List ℤ) → Term → List Term → ℕ → ℕ → Type 0
IsLeastBefore box i xs at n = (k : ℕ) → k < n → IsPlace box i xs k → term_low box (member xs at) ≤ℤ term_low box (member xs k)

unfoldable pub IsMostBefore : List (List ℤ) → Term → List Term → ℕ → ℕ → Type 0
IsMostBefore box i xs at n = (k : ℕ) → k < n → IsPlace box i xs k → term_high box (member xs k) ≤ℤ term_high box (member xs at)

-- the hull of the chosen term lies in that of the members in the places that the index can have
pub record IsWithin (box : List (List ℤ)) (i : Term) (xs : List Term) (c : Term) : Type 0 where
  pub low : (k : ℕ) × IsPlace box i xs k × (term_low box (member xs k) ≤ℤ term_low box c)
  pub high : (k : ℕ) × IsPlace box i xs k × (term_high box c ≤ℤ term_high box (member xs k))

-- where the index is fixed, the hull of the member in its place lies in that of the chosen term
unfoldable pub IsJoined : List (List ℤ) → Term → List Term → Term → Type 0
IsJoined box i xs c = IsFixed box i → (k : ℕ) → pos (k + 1) ≡ term_low box i → (term_low box c ≤ℤ term_low box (member xs k)) × (term_high box (member xs k) ≤ℤ term_high box c)
