use Rattle.std.proofs.Common.{◌≡◌, take}
use Rattle.std.specs.Prelude.{Ok}
use Rattle.std.specs.List.{flat_map}
use Rattle.run_log.specs.Buffers.{Buffered}
use Rattle.run_log.specs.Texts.{number_text}
use Rattle.run_log.proofs.pieces.put_numbers.Given as goal

abbrev pub invariant-loop-number : goal.invariant-loop-number
invariant-loop-number g l = record {
  told : Buffered (g.O.Sink.written l.fn.out, l.fn.buffer) (g.O.Sink.written l.out, l.buffer) (flat_map number_text (take l.number-index l.numbers)) (Ok tt);
  faults : g.O.Sink.faults l.out ≡ g.O.Sink.faults l.fn.out;
}
