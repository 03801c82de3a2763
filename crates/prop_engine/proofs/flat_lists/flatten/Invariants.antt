use Rattle.std.proofs.Common.{◌≡◌, length, take}
use Rattle.prop_engine.specs.Flat.{lists_of, AreStarts}
use Rattle.prop_engine.proofs.flat_lists.flatten.Given as goal

abbrev pub invariant-loop-list : goal.invariant-loop-list
invariant-loop-list l = record {
  starts : AreStarts l.starts.items (length l.members.items);
  made : lists_of l.members.items l.starts.items ≡ take l.list-index l.lists;
}
