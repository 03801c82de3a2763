use Rattle.run_log.proofs.Journaling.{notes_line}
use Rattle.run_log.proofs.line_journal.LineJournalJournal.note.Goals as goal

pub returns-then-is_err-clause-notes : goal.returns-then-is_err-clause-notes
returns-then-is_err-clause-notes g c = notes_line _ _ _ _ _ _ _ c.write_line.result c.if-self.false (cc (c.is_err.ensures.value, c.if-is_err.true)) c.write_line.ensures.text c.write_line.ensures.cause

pub returns-else-is_err-clause-notes : goal.returns-else-is_err-clause-notes
returns-else-is_err-clause-notes g c = notes_line _ _ _ _ _ _ _ c.write_line.result c.if-self.false (cc (c.is_err.ensures.value, c.if-is_err.false, c.if-self.false)) c.write_line.ensures.text c.write_line.ensures.cause
