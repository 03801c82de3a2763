use Rattle.std.proofs.Common.{◌≡◌}
use Rattle.fzn_model.specs.declared.con.Con.TheVariants as con
use Rattle.dom_store.specs.Narrowing.{Prunes}
use Rattle.element_prop.specs.Places.{IsReady, MeetsBefore}
use Rattle.fzn_model.specs.Meaning.{Holds}
use Rattle.element_prop.proofs.places.check_places.Given as goal

abbrev pub invariant-loop-place : goal.invariant-loop-place
invariant-loop-place l = record {
  prunes : Prunes (Holds (con.Element l.index l.members l.chosen)) l.fn.store l.store;
  ready : IsReady l.store.box l.index l.members l.chosen;
  meets : l.store.box ≡ l.fn.store.box → MeetsBefore l.fn.store.box l.index l.members l.chosen l.place;
}
