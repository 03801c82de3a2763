-- What contracts see of a shelf in memory.
use Rattle.std.specs.Prelude.{◌==◌, ℕ, ◌-◌, ◌^◌, ◌<◌, ◌≤◌, not, if◌then◌else◌, List}
use Rattle.entry_slab.specs.Entries.{Bounded}
use Rattle.entry_slab.specs.Contents.{Contents}

-- The entries with their keys, how many there is room for, a number that no key was given from on, every which call of
-- `with` is lost (0: none), how many calls are left up to and with the next lost one (0: none will be), and two counts.
pub record Listed : Type 0 where
  pub entries : List (ℕ × Bounded)
  pub room : ℕ
  pub next : ℕ
  pub lose : ℕ
  pub left : ℕ
  pub refusals : ℕ
  pub absences : ℕ

abbrev pub contents_of : Listed → Contents
contents_of s = record { entries = s.entries; room = s.room; loses = not (s.lose == 0) }

-- how many calls are left after one more
abbrev pub left_after : ℕ → ℕ → ℕ
left_after lose left = if left == 1 then lose else left - 1

-- A key that is given is new, as long as there are such numbers: it is none of those before, and none of those after.
pub record IsNewKey (before after key : ℕ) : Type 0 where
  pub above : before ≤ 2 ^ 63 → before ≤ key
  pub below : before ≤ 2 ^ 63 → key < after
