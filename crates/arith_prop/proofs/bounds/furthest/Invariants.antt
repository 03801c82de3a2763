use Rattle.std.specs.Prelude.{length}
use Rattle.fzn_model.specs.Limits.{TermIn}
use Rattle.arith_prop.specs.Extremes.{IsFurthest}
use Rattle.arith_prop.proofs.bounds.furthest.Given as goal

abbrev pub invariant-loop-term : goal.invariant-loop-term
invariant-loop-term l = record {
  bound : IsFurthest l.store.box l.extreme l.bounds l.term-index l.terms l.best;
  inside : TermIn (length l.store.box) l.best;
}
