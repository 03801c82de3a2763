use Rattle.std.proofs.Common.{◌≡◌}
use Rattle.fzn_model.specs.Meaning.{Holds}
use Rattle.dom_store.specs.Narrowing.{Prunes}
use Rattle.dom_store.specs.Stores.{box_size}
use Rattle.prop_engine.proofs.reified.run_on.Given as goal

abbrev pub invariant-loop-store : goal.invariant-loop-store
invariant-loop-store l = record {
  own : l.own ≡ l.fn.own;
  sides : l.sides ≡ l.fn.sides;
  prunes : Prunes (Holds l.fn.own) l.fn.store l.store;
}

abbrev pub decreases-loop-store : goal.decreases-loop-store
decreases-loop-store l = box_size l.store.box
