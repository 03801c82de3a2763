use Rattle.cs_base.proofs.Bytes.{write_part}
use Rattle.cs_base.proofs.writing.write_whole.Goals as goal

pub returns-in-Err-clause-appended : goal.returns-in-Err-clause-appended
returns-in-Err-clause-appended g c = write_part (g.O.Sink.written c.args.sink.now) (g.O.Sink.written c.loop-at.sink) (g.O.Sink.written c.write.new.self) c.args.bytes.now c.loop-at.at c.loop-at-test.true c.loop-at.invariant.told c.in-Err.ensures.appended
