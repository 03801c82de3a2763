-- The rows of a table, and those whose entries their columns can have.
use Rattle.std.specs.Prelude.{◌≡◌, ℕ, ◌/◌, ◌<◌, ◌⊎◌, List, length, slice_index_or, ℤ, pos, All, Contains}
use Rattle.fzn_model.specs.declared.term.Term.{Term}
use Rattle.fzn_model.specs.Meaning.{val, HasRow}
use Rattle.fzn_model.specs.Limits.{TermIn}
use Rattle.fzn_model.specs.Boxes.{IsBox, InBox}
use Rattle.fzn_model.specs.Bounds.{TermHas, IsLookedAt, IsFixed}
use Rattle.dom_store.specs.Strength.{entry}

-- a box with the columns of a table, of which there are some
pub record IsReady (box : List (List ℤ)) (xs : List Term) : Type 0 where
  pub well_formed : IsBox box
  pub some : 0 < length xs
  pub columns : All (TermIn (length box)) xs

-- each column can have its entry of a row
unfoldable pub CanHaveRow : List (List ℤ) → List Term → List ℤ → Type 0
CanHaveRow box xs row = (j : ℕ) (d : Term) → j < length xs → TermHas box (slice_index_or xs j d) (slice_index_or row j (pos 0))

-- the number of a row, which counts from 0
pub record IsNumber (rows : List ℤ) (width row : ℕ) : Type 0 where
  pub inside : row < length rows / width

-- the number of a row whose entries its columns can have
pub record IsPossible (box : List (List ℤ)) (xs : List Term) (rows : List ℤ) (row : ℕ) : Type 0 where
  pub number : IsNumber rows (length xs) row
  pub has : (j : ℕ) (d : Term) → j < length xs → TermHas box (slice_index_or xs j d) (entry rows (length xs) row j)

-- the numbers of all such rows, of the first n
pub record ArePossible (box : List (List ℤ)) (xs : List Term) (rows : List ℤ) (n : ℕ) (found : List ℕ) : Type 0 where
  pub each : All (IsPossible box xs rows) found
  pub all : (row : ℕ) → row < n → IsPossible box xs rows row → Contains found row

-- the entries of a row are the values of the columns
unfoldable pub IsRowAt : List Term → List ℤ → ℕ → List ℤ → Type 0
IsRowAt xs rows row θ = (j : ℕ) (d : Term) → j < length xs → entry rows (length xs) row j ≡ val (slice_index_or xs j d) θ

-- numbers of rows, of which each assignment of the box with the constraint has one
pub record AreChosen (box : List (List ℤ)) (xs : List Term) (rows : List ℤ) (found : List ℕ) : Type 0 where
  pub each : All (IsNumber rows (length xs)) found
  pub one : (θ : List ℤ) → InBox box θ → HasRow xs rows θ → (row : ℕ) × Contains found row × IsRowAt xs rows row θ

-- one of the rows has the value in a column
unfoldable pub IsEntry : List ℤ → ℕ → ℕ → List ℕ → ℤ → Type 0
IsEntry rows width column found v = (row : ℕ) × Contains found row × (entry rows width row column ≡ v)

-- a number is added to others
pub record IsAdded (v : ℤ) (old new : List ℤ) : Type 0 where
  pub has : Contains new v
  pub keeps : (z : ℤ) → Contains old z → Contains new z
  pub only : (z : ℤ) → Contains new z → Contains old z ⊎ (z ≡ v)

-- the entries of the rows in a column
pub record AreEntries (rows : List ℤ) (width column : ℕ) (found : List ℕ) (vs : List ℤ) : Type 0 where
  pub each : (v : ℤ) → Contains vs v → IsEntry rows width column found v
  pub all : (row : ℕ) → Contains found row → Contains vs (entry rows width row column)

-- where the rows are possible, each value of a column that is looked at is an entry of one of them
unfoldable pub IsSupported : List Term → List ℤ → List ℕ → ℕ → List (List ℤ) → Type 0
IsSupported xs rows found column box = All (IsPossible box xs rows) found → (d : Term) (v : ℤ) → IsLookedAt box (slice_index_or xs column d) v → IsEntry rows (length xs) column found v

-- so are those of the first n columns
unfoldable pub AreSupported : List Term → List ℤ → List ℕ → ℕ → List (List ℤ) → Type 0
AreSupported xs rows found n box = (j : ℕ) → j < n → IsSupported xs rows found j box

-- a column has one value, and there are some rows
pub record IsSettled (box : List (List ℤ)) (xs : List Term) (found : List ℕ) (column : ℕ) : Type 0 where
  pub fixed : (d : Term) → IsFixed box (slice_index_or xs column d)
  pub some : 0 < length found
