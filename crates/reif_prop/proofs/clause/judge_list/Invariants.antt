use Rattle.reif_prop.specs.Judging.{NoneAt, AllAtBy}
use Rattle.reif_prop.proofs.clause.judge_list.Given as goal

abbrev pub invariant-loop-term : goal.invariant-loop-term
invariant-loop-term l = record {
  none : NoneAt l.store.box l.terms l.value l.term-index;
  all : AllAtBy l.store.box l.terms l.other l.term-index l.unsure;
}
