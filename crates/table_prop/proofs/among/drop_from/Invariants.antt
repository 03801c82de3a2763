use Rattle.std.proofs.Common.{length}
use Rattle.fzn_model.specs.Limits.{TermIn}
use Rattle.dom_store.specs.declared.pass.Passed.TheVariants as passed
use Rattle.dom_store.specs.Steps.{NarrowsTerm}
use Rattle.table_prop.specs.Among.{IsAmong, ValuesAreAmong}
use Rattle.table_prop.proofs.among.drop_from.Given as goal

abbrev pub invariant-loop-step : goal.invariant-loop-step
invariant-loop-step l = record {
  inside : TermIn (length l.store.box) l.term;
  moves : NarrowsTerm (IsAmong l.values) (ValuesAreAmong l.term l.values l.low l.step) l.term l.fn.store l.store passed.Done;
}
