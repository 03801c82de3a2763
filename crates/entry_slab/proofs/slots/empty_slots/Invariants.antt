use Rattle.std.proofs.Common.{◌≡◌, ℕ, length, None}
use Rattle.entry_slab.specs.Slots.{slot_at}
use Rattle.entry_slab.proofs.slots.empty_slots.Given as goal

abbrev pub invariant-loop : goal.invariant-loop
invariant-loop l = record { count : length l.slots.items ≡ l.counter; empty : (k : ℕ) → slot_at l.slots.items k ≡ None }
