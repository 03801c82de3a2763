use Rattle.std.proofs.Common.{arith, rules}
use Rattle.entry_slab.proofs.Stocked.{new_stocked, new_entries}
use Rattle.entry_slab.proofs.slots.Slots.new.Goals as goal

pub invariant_of-result : goal.invariant_of-result
invariant_of-result c = (
  new_stocked c.in_ok-empty_slots.field-0.items c.in_ok-numbers_below.field-0.items c.args.room (search rules) c.in_ok-empty_slots.ensures.count c.in_ok-empty_slots.ensures.empty c.in_ok-numbers_below.ensures.count c.in_ok-numbers_below.ensures.each,
  omega (arith, c.in_ok-empty_slots.ensures.count, c.in_ok-numbers_below.ensures.room),
)

pub returns : goal.returns
returns c = let none = new_entries c.in_ok-empty_slots.field-0.items c.in_ok-empty_slots.ensures.empty in cc (none, c.in_ok-empty_slots.ensures.count)
