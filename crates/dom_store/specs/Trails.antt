-- The trail: the domains that variables had before they were narrowed, and how the boxes of levels and settlings are had from it.
use Rattle.std.specs.Prelude.{◌≡◌, ℕ, ◌+◌, ◌<◌, ◌≤◌, Bool, not, List, [], ◌∷◌, length, map, drop, take, slice_set, reverse, ℤ, All, Any, Option, Some, None, ⊤}
use Rattle.std.specs.List.{count_by}
use Rattle.mark_set.specs.Marks.{IsMarked, IsClear}
use Rattle.dom_store.specs.declared.entry.Entry.{Entry}
use Rattle.dom_store.specs.declared.level.Level.{Level}
use Rattle.fzn_model.specs.Boxes.{domain_at}
use Rattle.dom_store.specs.Stores.{Stored, IsStore, IsInside}

-- A trail: its entries, the earliest first; the marks of the variables that have one among those from `since` on; and for how many there is room.
pub record TrailParts : Type 0 where
  pub entries : List Entry
  pub marks : List Bool
  pub since : ℕ
  pub room : ℕ

-- the domain of an entry is put back
abbrev pub put_back : Entry → List (List ℤ) → List (List ℤ)
put_back e box = slice_set box e.var e.domain

-- those of all entries are, the latest first
unfoldable pub undone : List Entry → List (List ℤ) → List (List ℤ)
undone [] box = box
undone (e ∷ es) box = put_back e (undone es box)

-- the box when the trail had so many entries
abbrev pub box_at : List Entry → List (List ℤ) → ℕ → List (List ℤ)
box_at entries box count = undone (drop count entries) box

abbrev pub box_at_some : List Entry → List (List ℤ) → Option ℕ → Option (List (List ℤ))
box_at_some entries box None = None
box_at_some entries box (Some count) = Some (box_at entries box count)

-- an entry of the variable
abbrev pub Names : ℕ → List Entry → Type 0
Names var entries = Any (λ e. e.var ≡ var) entries

-- what the type keeps: an entry for each mark, and room for one of each further variable
pub record IsTrail (t : TrailParts) : Type 0 where
  pub since : t.since ≤ length t.entries
  pub inside : All (λ e. e.var < length t.marks) t.entries
  pub named : (var : ℕ) → IsMarked t.marks var → Names var (drop t.since t.entries)
  pub room : length t.entries + count_by not t.marks ≤ t.room

-- marks are taken away, and there is room for an entry of each variable
pub record Renews (old new : TrailParts) : Type 0 where
  pub entries : new.entries ≡ old.entries
  pub count : length new.marks ≡ length old.marks
  pub clear : IsClear new.marks
  pub since : new.since ≡ length old.entries
  pub room : length old.entries + length old.marks ≤ new.room
  pub grows : old.room ≤ new.room

-- the latest entries are taken away
pub record TakesBack (start : ℕ) (old new : TrailParts) : Type 0 where
  pub entries : new.entries ≡ take start old.entries
  pub count : length new.marks ≡ length old.marks
  pub since : new.since ≡ start
  pub room : new.room ≡ old.room

-- a variable's domain is saved, or was
pub record Saves (box : List (List ℤ)) (old new : TrailParts) : Type 0 where
  pub boxes : (count : ℕ) → count ≤ length old.entries → box_at new.entries box count ≡ box_at old.entries box count
  pub more : length old.entries ≤ length new.entries
  pub count : length new.marks ≡ length old.marks
  pub since : new.since ≡ old.since
  pub room : new.room ≡ old.room

-- a place in the trail, where there is one, is no later than another
unfoldable pub IsEarlier : Option ℕ → ℕ → Type 0
IsEarlier None bound = ⊤
IsEarlier (Some at) bound = at ≤ bound

-- the levels, the latest first, begin one after another, and there is room for an entry of each variable from each on
unfoldable pub AreEarlier : ℕ → ℕ → List Level → Option ℕ → ℕ → Type 0
AreEarlier variables room [] settled bound = IsEarlier settled bound
AreEarlier variables room (l ∷ ls) settled bound =
    IsEarlier settled bound × (l.start ≤ bound) × (l.start + variables ≤ room) × AreEarlier variables room ls l.settled l.start

-- the boxes at the beginnings of the levels, and at the latest settlings, now and there
unfoldable pub saved_boxes : List Entry → List (List ℤ) → List Level → List (List (List ℤ))
saved_boxes entries box levels = map (λ l. box_at entries box l.start) levels

unfoldable pub settled_boxes : List Entry → List (List ℤ) → Option ℕ → List Level → List (Option (List (List ℤ)))
settled_boxes entries box settled levels = box_at_some entries box settled ∷ map (λ l. box_at_some entries box l.settled) levels

-- what contracts see of a store
abbrev pub stored_of : List (List ℤ) → TrailParts → List Level → Option ℕ → List Bool → ℕ → Stored
stored_of box trail levels settled touched changes = record {
  box = box;
  saved = saved_boxes trail.entries box (reverse levels);
  settled = settled_boxes trail.entries box settled (reverse levels);
  touched = touched;
  changes = changes;
}

-- what the type of a store keeps
pub record IsStoreOf (box : List (List ℤ)) (trail : TrailParts) (levels : List Level) (settled : Option ℕ) (touched : List Bool) (changes : ℕ) : Type 0 where
  pub stored : IsStore (stored_of box trail levels settled touched changes)
  pub kept : IsTrail trail
  pub marks : length trail.marks ≡ length box
  pub earlier : AreEarlier (length box) trail.room (reverse levels) settled trail.since

-- The box at the latest settling: only the domains of the variables of these entries may differ from it.
pub record DiffersFrom (entries : List Entry) (box earlier : List (List ℤ)) : Type 0 where
  pub inside : IsInside earlier box
  pub same : (k : ℕ) → (Names k entries → ⊥) → domain_at box k ≡ domain_at earlier k

unfoldable pub DiffersAt : List Entry → Option (List (List ℤ)) → List (List ℤ) → Type 0
DiffersAt entries None box = ⊥
DiffersAt entries (Some earlier) box = DiffersFrom entries box earlier
