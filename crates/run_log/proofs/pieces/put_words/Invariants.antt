use Rattle.std.proofs.Common.{◌≡◌, ◌++◌}
use Rattle.std.specs.Prelude.{Ok}
use Rattle.std.specs.List.{flat_map}
use Rattle.run_log.specs.Buffers.{Buffered}
use Rattle.run_log.specs.Texts.{number_text}
use Rattle.run_log.proofs.pieces.put_words.Given as goal

abbrev pub invariant-loop-word : goal.invariant-loop-word
invariant-loop-word g l = record {
  told : Buffered (g.O.Sink.written l.fn.out, l.fn.buffer) (g.O.Sink.written l.out, l.buffer) (flat_map number_text l.yielded) (Ok tt);
  all : l.yielded ++ l.word-iterator ≡ l.fn.words;
  faults : g.O.Sink.faults l.out ≡ g.O.Sink.faults l.fn.out;
}
