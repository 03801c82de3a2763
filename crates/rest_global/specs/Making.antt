-- The rest of a box in the making.
use Rattle.std.specs.Prelude.{◌≡◌, ℕ, ◌+◌, ◌*◌, ◌<◌, ◌≤◌, List, [], ◌∷◌, ◌++◌, length, slice_index, ℤ}
use Rattle.fzn_model.specs.declared.con.Con.{Con}
use Rattle.fzn_model.specs.Limits.{ConInLimits, of_model}
use Rattle.fzn_model.specs.Boxes.{IsBox}
use Rattle.fzn_model.specs.Booleans.{FitsBox}
use Rattle.rest_basic.specs.declared.reduced.Reduced.{Reduced}
use Rattle.rest_basic.specs.declared.reduced.Reduced.TheVariants as reduced
use Rattle.rest_global.specs.Renamed.{con_by}
use Rattle.rest_global.specs.Projection.{opens, place, rest_term, IsForm, AreLeft}
use Rattle.fzn_model.specs.Values.{largest}
use Rattle.rest_key.specs.Counts.{con_count, cons_count}
use Rattle.rest_global.specs.declared.labelled.Labelled.{Labelled}

-- the places of the first variables: how many open ones stand before each
pub record ArePlaces (box : List (List ℤ)) (n : ℕ) (places : List ℕ) : Type 0 where
  pub count : length places ≡ n
  pub each : (k : ℕ) → k < n → slice_index places k ≡ place box k

-- the open ones of the first variables, and the places of all of these
pub record AreNumbered (box : List (List ℤ)) (n : ℕ) (variables places : List ℕ) : Type 0 where
  pub are : variables ≡ opens box n
  pub table : ArePlaces box n places
  pub few : length variables ≤ n
  pub well_formed : 0 < n → IsBox box

-- a constraint of a model over the variables of the box
pub record IsOver (box : List (List ℤ)) (c : Con) : Type 0 where
  pub fits_box : FitsBox box c
  pub kept : ConInLimits of_model (length box) c

-- the form of one more constraint is counted, and is at the end where there are few enough words
pub record IsCounted (box : List (List ℤ)) (d : Con) (n limit : ℕ) (old new : Labelled) : Type 0 where
  pub words : new.words ≡ old.words + 1 + con_count d
  pub small : con_count d ≤ 36000005 + 2 * largest
  pub kept : new.words ≤ limit → (new.cons ≡ old.cons ++ con_by (rest_term box) d ∷ []) × (new.labels ≡ old.labels ++ n ∷ [])

-- what is left of one more constraint; nothing where it holds
abbrev pub IsNext : List (List ℤ) → Reduced → ℕ → ℕ → Labelled → Labelled → Type 0
IsNext box reduced.Holds n limit old new = new ≡ old
IsNext box (reduced.Is d) n limit old new = IsCounted box d n limit old new

pub record IsAdded (box : List (List ℤ)) (c : Con) (n limit : ℕ) (old new : Labelled) : Type 0 where
  pub form : Reduced
  pub is : IsForm box c form
  pub next : IsNext box form n limit old new

-- What is left of some constraints is counted beside some words, and is all there where these are few enough.
pub record AreCounted (box : List (List ℤ)) (cs : List Con) (start limit : ℕ) (left : Labelled) : Type 0 where
  pub all : List Con
  pub names : List ℕ
  pub is : AreLeft box 0 cs all names
  pub words : left.words ≡ start + cons_count all
  pub kept : left.words ≤ limit → (left.cons ≡ all) × (left.labels ≡ names)
