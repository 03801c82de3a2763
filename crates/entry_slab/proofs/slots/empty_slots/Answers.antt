use Rattle.std.proofs.Common.{List, ap, ◌∙◌, arith, length}
use Rattle.std.specs.declared.option.Option.{Option}
use Rattle.std.proofs.lemmas.List.{length-append}
use Rattle.entry_slab.specs.Slots.{slot_at}
use Rattle.entry_slab.specs.declared.slots.Kept.{Kept}
use Rattle.entry_slab.proofs.Stocked.{one_empty_more}
use Rattle.entry_slab.proofs.slots.empty_slots.Goals as goal

pub loop-preserved : goal.loop-preserved
loop-preserved c = record {
  count = omega (arith, ap length c.in_ok-push.ensures.items, length-append {A = Option Kept});
  empty = λ k. ap (λ (slots : List (Option Kept)). slot_at slots k) c.in_ok-push.ensures.items ∙ one_empty_more _ k c.loop.invariant.empty;
}
