use Rattle.dom_store.specs.Strength.{IsPlace}
use Rattle.element_prop.specs.Places.{IsLeastBefore, IsMostBefore}
use Rattle.element_prop.proofs.ends.ends_of.Given as goal

abbrev pub invariant-loop-place : goal.invariant-loop-place
invariant-loop-place l = record {
  low : IsPlace l.store.box l.index l.members l.low;
  high : IsPlace l.store.box l.index l.members l.high;
  least : IsLeastBefore l.store.box l.index l.members l.low l.place;
  most : IsMostBefore l.store.box l.index l.members l.high l.place;
}
