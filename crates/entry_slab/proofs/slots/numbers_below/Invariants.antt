use Rattle.std.proofs.Common.{◌≡◌, ◌<◌, ◌≤◌, ℕ, length, slice_index, vec_capacity}
use Rattle.entry_slab.proofs.slots.numbers_below.Given as goal

abbrev pub invariant-loop-number : goal.invariant-loop-number
invariant-loop-number l = record { count : length l.numbers.items ≡ l.number; each : (k : ℕ) → k < l.number → slice_index l.numbers.items k ≡ k; room : l.room ≤ vec_capacity l.numbers }
