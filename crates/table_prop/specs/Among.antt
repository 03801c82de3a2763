-- A term that has to take one of several numbers, and numbers that it can all have.
use Rattle.std.specs.Prelude.{ℕ, ◌<◌, ◌⊎◌, List, length, slice_index_or, ℤ, pos, ◌+ℤ◌, ◌≤ℤ◌, Contains}
use Rattle.fzn_model.specs.declared.term.Term.{Term}
use Rattle.fzn_model.specs.Bounds.{term_low, term_high, TermHas, IsLookedAt, IsWide}

-- there is no number
unfoldable pub HasNoNumber : List ℤ → Type 0
HasNoNumber vs = (z : ℤ) → Contains vs z → ⊥

-- the least of the numbers, and the greatest
pub record IsFirst (vs : List ℤ) (first : ℤ) : Type 0 where
  pub has : Contains vs first
  pub least : (z : ℤ) → Contains vs z → first ≤ℤ z

pub record IsLast (vs : List ℤ) (last : ℤ) : Type 0 where
  pub has : Contains vs last
  pub greatest : (z : ℤ) → Contains vs z → z ≤ℤ last

-- the number in a place is at most each of the first n, or at least each
pub record IsFirstTo (vs : List ℤ) (n place : ℕ) : Type 0 where
  pub inside : place < length vs
  pub least : (k : ℕ) → k < n → (d : ℤ) → slice_index_or vs place (pos 0) ≤ℤ slice_index_or vs k d

pub record IsLastTo (vs : List ℤ) (n place : ℕ) : Type 0 where
  pub inside : place < length vs
  pub greatest : (k : ℕ) → k < n → (d : ℤ) → slice_index_or vs k d ≤ℤ slice_index_or vs place (pos 0)

-- a number lies between two others, or is one of them
abbrev pub IsBetween : ℤ → ℤ → ℤ → Type 0
IsBetween low high z = (low ≤ℤ z) × (z ≤ℤ high)

-- a value is one of the numbers
unfoldable pub IsAmong : List ℤ → ℤ → Type 0
IsAmong vs z = Contains vs z

-- the term can have each of the numbers
unfoldable pub HasAll : Term → List ℤ → List (List ℤ) → Type 0
HasAll t vs box = (z : ℤ) → Contains vs z → TermHas box t z

-- where it can, its least value is one of them, or its greatest
unfoldable pub LowIsAmong : Term → List ℤ → List (List ℤ) → Type 0
LowIsAmong t vs box = HasAll t vs box → IsAmong vs (term_low box t)

unfoldable pub HighIsAmong : Term → List ℤ → List (List ℤ) → Type 0
HighIsAmong t vs box = HasAll t vs box → IsAmong vs (term_high box t)

-- where it is looked at in a value, that is one of them
unfoldable pub ValueIsAmong : Term → List ℤ → ℤ → List (List ℤ) → Type 0
ValueIsAmong t vs v box = IsLookedAt box t v → IsAmong vs v

-- so are the first n values from a number up
unfoldable pub ValuesAreAmong : Term → List ℤ → ℤ → ℕ → List (List ℤ) → Type 0
ValuesAreAmong t vs low n box = (k : ℕ) → k < n → ValueIsAmong t vs (low +ℤ pos k) box

-- so are all, unless the variable is wide
unfoldable pub EachIsAmong : Term → List ℤ → List (List ℤ) → Type 0
EachIsAmong t vs box = IsWide box t ⊎ ((v : ℤ) → ValueIsAmong t vs v box)

-- where the term can have all the numbers, each value that is looked at is one of them
unfoldable pub AreAmong : Term → List ℤ → List (List ℤ) → Type 0
AreAmong t vs box = HasAll t vs box → (v : ℤ) → ValueIsAmong t vs v box
