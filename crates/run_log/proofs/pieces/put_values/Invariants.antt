use Rattle.std.proofs.Common.{◌≡◌, take}
use Rattle.std.specs.Prelude.{Ok}
use Rattle.std.specs.List.{flat_map}
use Rattle.run_log.specs.Buffers.{Buffered}
use Rattle.run_log.specs.Texts.{number_text}
use Rattle.run_log.proofs.pieces.put_values.Given as goal

abbrev pub invariant-loop-value : goal.invariant-loop-value
invariant-loop-value g l = record {
  told : Buffered (g.O.Sink.written l.fn.out, l.fn.buffer) (g.O.Sink.written l.out, l.buffer) (flat_map number_text (take l.value-index l.values)) (Ok tt);
  faults : g.O.Sink.faults l.out ≡ g.O.Sink.faults l.fn.out;
}
