use Rattle.std.proofs.Common.{◌≡◌, take}
use Rattle.std.specs.Prelude.{Ok}
use Rattle.std.specs.List.{flat_map}
use Rattle.solution_out.specs.Shows.{range_argument}
use Rattle.solution_out.specs.Writes.{Wrote}
use Rattle.solution_out.proofs.array.put_ranges.Given as goal

abbrev pub invariant-loop-range : goal.invariant-loop-range
invariant-loop-range g l = record {
  told : Wrote (g.O.Sink.written l.fn.out) (g.O.Sink.written l.out) (flat_map range_argument (take l.range-index l.dims)) (Ok tt);
  faults : g.O.Sink.faults l.out ≡ g.O.Sink.faults l.fn.out;
}
