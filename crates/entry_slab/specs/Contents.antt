-- What a shelf holds, where it tells it, and how its calls change that. It is this project's own.
use Rattle.std.specs.Prelude.{◌≡◌, ◌≢◌, ◌==◌, ℕ, ◌+◌, ◌<◌, Bool, if◌then◌else◌, List, [], ◌∷◌, length, Some, None, Ok, Err, Result, ⊤}
use Rattle.std.specs.declared.option.Option.{Option}
use Rattle.entry_slab.specs.Entries.{Bounded}
use Rattle.entry_slab.specs.declared.shelf.NotKept.{NotKept}

-- the entries with their keys, how many there is room for, and whether readings of entries that are there may find nothing
pub record Contents : Type 0 where
  pub entries : List (ℕ × Bounded)
  pub room : ℕ
  pub loses : Bool

-- the entry under a key, or nothing
unfoldable pub entry_under : List (ℕ × Bounded) → ℕ → Option Bounded
entry_under [] key = None
entry_under (p ∷ ps) key = if p.0 == key then Some p.1 else entry_under ps key

-- an entry was added under a key that wasn't there, and there was room for it
pub record Adds (key : ℕ) (e : Bounded) (old new : List (ℕ × Bounded)) : Type 0 where
  pub absent : entry_under old key ≡ None
  pub there : entry_under new key ≡ Some e
  pub others : (k : ℕ) → k ≢ key → entry_under new k ≡ entry_under old k
  pub count : length new ≡ length old + 1

-- the entry under a key was taken out, where there was one
pub record TakesOut (key : ℕ) (old new : List (ℕ × Bounded)) : Type 0 where
  pub gone : entry_under new key ≡ None
  pub others : (k : ℕ) → k ≢ key → entry_under new k ≡ entry_under old k
  pub none : entry_under old key ≡ None → new ≡ old
  pub one : (e : Bounded) → entry_under old key ≡ Some e → length old ≡ length new + 1

-- the shelf that the contents are of stays as it is
pub record SameShelf (old new : Contents) : Type 0 where
  pub room : new.room ≡ old.room
  pub loses : new.loses ≡ old.loses

-- both tell their contents, which are so related, or neither does
abbrev pub WhereTold : (Contents → Contents → Type 0) → Option Contents → Option Contents → Type 0
WhereTold R None None = ⊤
WhereTold R None (Some new) = ⊥
WhereTold R (Some old) None = ⊥
WhereTold R (Some old) (Some new) = R old new

-- a put: the entry is added, or as many entries are there as there is room for, and nothing changes
abbrev pub Puts : Bounded → Result ℕ NotKept → Contents → Contents → Type 0
Puts e (Ok key) old new = (length old.entries < old.room) × Adds key e old.entries new.entries × SameShelf old new
Puts e (Err refused) old new = (length old.entries ≡ old.room) × (new ≡ old)

abbrev pub Removes : ℕ → Contents → Contents → Type 0
Removes key old new = TakesOut key old.entries new.entries × SameShelf old new
