use Rattle.std.proofs.Common.{◌≡◌, take}
use Rattle.std.specs.Prelude.{Ok}
use Rattle.std.specs.List.{flat_map}
use Rattle.solution_out.specs.Shows.{line}
use Rattle.solution_out.specs.Writes.{Wrote}
use Rattle.solution_out.proofs.lines.put_lines.Given as goal

abbrev pub invariant-loop-output : goal.invariant-loop-output
invariant-loop-output g l = record {
  told : Wrote (g.O.Sink.written l.fn.out) (g.O.Sink.written l.out) (flat_map (line l.values) (take l.output-index l.outs)) (Ok tt);
  faults : g.O.Sink.faults l.out ≡ g.O.Sink.faults l.fn.out;
}
