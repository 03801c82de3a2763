-- What a narrowing of one variable does to a store, and what several in a row do to a box.
use Rattle.std.specs.Prelude.{◌≡◌, ℕ, ◌<◌, ◌≤◌, ◌⊎◌, Bool, true, false, List, ◌∷◌, drop, length, slice_set, ℤ, Contains, Some}
use Rattle.int_domain.specs.declared.narrow.Narrow.{Narrow}
use Rattle.int_domain.specs.declared.narrow.Narrow.TheVariants.{Same, Changed, Empty}
use Rattle.fzn_model.specs.Boxes.{domain_at, InBox}
use Rattle.mark_set.specs.Marks.{IsMarked, IsUnmarked, IsClear}
use Rattle.dom_store.specs.Stores.{Stored, box_size, counted}

-- the count goes up exactly where a domain changed
abbrev pub changes_by : Narrow → ℕ → ℕ
changes_by Same n = n
changes_by Changed n = counted n
changes_by Empty n = n

-- the variable is marked exactly where its domain changed
abbrev pub touched_by : Narrow → ℕ → List Bool → List Bool
touched_by Same var touched = touched
touched_by Changed var touched = slice_set touched var true
touched_by Empty var touched = touched

-- The domain of one variable is replaced; all others, the levels and the settlings stay.
pub record AltersOnly (var : ℕ) (answer : Narrow) (old new : Stored) : Type 0 where
  pub box : new.box ≡ slice_set old.box var (domain_at new.box var)
  pub saved : new.saved ≡ old.saved
  pub settled : new.settled ≡ old.settled
  pub changes : new.changes ≡ changes_by answer old.changes
  pub touched : new.touched ≡ touched_by answer var old.touched
  pub room : var < length old.touched

-- Only values go, and none of an assignment of the old box for which P holds; where any goes, the box gets smaller.
pub record Loses (P : List ℤ → Type 0) (old new : List (List ℤ)) : Type 0 where
  pub count : length new ≡ length old
  pub within : (k : ℕ) (z : ℤ) → Contains (domain_at new k) z → Contains (domain_at old k) z
  pub kept : (θ : List ℤ) → InBox old θ → P θ → InBox new θ
  pub falls : (new ≡ old) ⊎ (box_size new < box_size old)

-- The boxes of levels and settlings stay; marks stay, and the domain of a variable without one has stayed; the count of
-- changes never falls.
pub record Stays (old new : Stored) : Type 0 where
  pub saved : new.saved ≡ old.saved
  pub settled : new.settled ≡ old.settled
  pub marks : (k : ℕ) → IsUnmarked new.touched k → IsUnmarked old.touched k
  pub untouched : (k : ℕ) → IsUnmarked new.touched k → domain_at new.box k ≡ domain_at old.box k
  pub changes : old.changes ≤ new.changes

-- Only values go that no assignment with P has; the levels stay.
pub record Prunes (P : List ℤ → Type 0) (old new : Stored) : Type 0 where
  pub loses : Loses P old.box new.box
  pub stays : Stays old new

-- no assignment of the box has P
abbrev pub HasNone : (List ℤ → Type 0) → List (List ℤ) → Type 0
HasNone P box = (θ : List ℤ) → InBox box θ → P θ → ⊥

-- nothing changes but the marks
pub record SameButMarks (old new : Stored) : Type 0 where
  pub box : new.box ≡ old.box
  pub saved : new.saved ≡ old.saved
  pub settled : new.settled ≡ old.settled
  pub changes : new.changes ≡ old.changes

-- the mark of a variable is taken away
pub record TakesTouched (var : ℕ) (old new : Stored) : Type 0 where
  pub inside : var < length old.touched
  pub was : IsMarked old.touched var
  pub is : new ≡ record old { touched = slice_set old.touched var false }

-- all marks are taken away
pub record Forgets (old new : Stored) : Type 0 where
  pub same : SameButMarks old new
  pub clear : IsClear new.touched

-- the box as it is now is settled; or, for want of memory, nothing changes
abbrev pub Settles : Stored → Stored → Type 0
Settles old new = (new ≡ record old { settled = Some old.box ∷ drop 1 old.settled }) ⊎ (new ≡ old)
