use Rattle.std.proofs.Common.{◌≡◌, take}
use Rattle.std.specs.Prelude.{Ok}
use Rattle.std.specs.List.{flat_map}
use Rattle.solution_out.specs.Shows.{next_text}
use Rattle.solution_out.specs.Writes.{Wrote}
use Rattle.solution_out.proofs.values.put_next_terms.Given as goal

abbrev pub invariant-loop-term : goal.invariant-loop-term
invariant-loop-term g l = record {
  told : Wrote (g.O.Sink.written l.fn.out) (g.O.Sink.written l.out) (flat_map (next_text l.truth l.values) (take l.term-index l.terms)) (Ok tt);
  faults : g.O.Sink.faults l.out ≡ g.O.Sink.faults l.fn.out;
}
