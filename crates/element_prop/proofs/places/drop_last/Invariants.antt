use Rattle.std.proofs.Common.{◌-◌, ◌≤ℤ◌, pos}
use Rattle.fzn_model.specs.declared.con.Con.TheVariants as con
use Rattle.fzn_model.specs.Bounds.{term_high}
use Rattle.dom_store.specs.Narrowing.{Prunes}
use Rattle.element_prop.specs.Places.{IsReady}
use Rattle.fzn_model.specs.Meaning.{Holds}
use Rattle.element_prop.proofs.places.drop_last.Given as goal

abbrev pub invariant-loop-gone : goal.invariant-loop-gone
invariant-loop-gone l = record {
  prunes : Prunes (Holds (con.Element l.index l.members l.chosen)) l.fn.store l.store;
  ready : IsReady l.store.box l.index l.members l.chosen;
  most : term_high l.store.box l.index ≤ℤ pos (l.end - (l.gone - l.first));
}
