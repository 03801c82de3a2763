use Rattle.std.proofs.Common.{take}
use Rattle.prop_engine.specs.Readers.{Notes}
use Rattle.prop_engine.proofs.readers.note_terms.Given as goal

abbrev pub invariant-loop-term : goal.invariant-loop-term
invariant-loop-term l = Notes (take l.term-index l.terms) l.at l.fn.readers l.readers
