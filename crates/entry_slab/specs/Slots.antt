-- A table of slots, each empty or with an entry and its key. A key names its slot: it is the slot's number and a multiple of
-- the number of slots.
use Rattle.std.specs.Prelude.{◌≡◌, ◌≢◌, ℕ, ◌+◌, ◌*◌, ◌%◌, ◌^◌, ◌<◌, List, [], ◌∷◌, length, slice_index, slice_index_or, Some, None}
use Rattle.std.specs.declared.option.Option.{Option}
use Rattle.entry_slab.specs.Entries.{Bounded}
use Rattle.entry_slab.specs.declared.slots.Kept.{Kept}

-- what is in the slots, in their order
unfoldable pub entries_in : List (Option Kept) → List (ℕ × Bounded)
entries_in [] = []
entries_in (None ∷ slots) = entries_in slots
entries_in (Some kept ∷ slots) = (kept.key, kept.entry) ∷ entries_in slots

abbrev pub slot_at : List (Option Kept) → ℕ → Option Kept
slot_at slots at = slice_index_or slots at None

-- each key stands in the slot that it names
unfoldable pub AreInPlace : List (Option Kept) → Type 0
AreInPlace slots = (at : ℕ) (kept : Kept) → at < length slots → slot_at slots at ≡ Some kept → kept.key % length slots ≡ at

-- the numbers of the empty slots, each once
pub record AreFree (slots : List (Option Kept)) (free : List ℕ) : Type 0 where
  pub apart : (j k : ℕ) → j < k → k < length free → slice_index free j ≢ slice_index free k
  pub inside : (k : ℕ) → k < length free → slice_index free k < length slots
  pub empty : (k : ℕ) → k < length free → slot_at slots (slice_index free k) ≡ None
  pub count : length (entries_in slots) + length free ≡ length slots

-- A table, the numbers of its empty slots, and the least multiple that no key was made with.
pub record IsStocked (slots : List (Option Kept)) (free : List ℕ) (next : ℕ) : Type 0 where
  pub in_place : AreInPlace slots
  pub empty : AreFree slots free
  pub small : length slots < 2 ^ 32
  pub multiple : (rounds : ℕ) × (next ≡ rounds * length slots)
  pub bounded : next < 2 ^ 63 + 2 ^ 32 + 1

-- what a table shows: its entries, how many there is room for, and a number that no key was given from on
pub record Stock : Type 0 where
  pub entries : List (ℕ × Bounded)
  pub room : ℕ
  pub next : ℕ

-- the slot that a key names has its entry
pub record IsKept (slots : List (Option Kept)) (key : ℕ) (kept : Kept) : Type 0 where
  pub some_slots : 0 < length slots
  pub stands : slot_at slots (key % length slots) ≡ Some kept
  pub own : kept.key ≡ key

unfoldable pub HasNone : List (Option Kept) → ℕ → Type 0
HasNone slots key = (kept : Kept) → IsKept slots key kept → ⊥
