use Rattle.prop_engine.proofs.Noting.{parts_more}
use Rattle.prop_engine.proofs.readers.note_parts.Goals as goal

pub loop-part-preserved : goal.loop-part-preserved
loop-part-preserved c = parts_more c.args.at c.loop-part.part-index _ c.args.parts.now c.args.readers.now c.loop-part.readers c.note_term.new.readers c.loop-part-test.true c.loop-part.invariant c.in_ok-note_term.ensures
