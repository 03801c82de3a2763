use Rattle.std.proofs.Common.{[], ◌∷◌}
use Rattle.run_log.specs.declared.line.LogLine.TheVariants as line
use Rattle.run_log.specs.Texts.{plain}
use Rattle.run_log.proofs.Appending.{notes_then}
use Rattle.explorer.proofs.noting.note_wide.Goals as goal

pub returns-clause-notes : goal.returns-clause-notes
returns-clause-notes g c = notes_then (g.J.Journal.noted c.args.journal.now) (g.J.Journal.noted c.note_node.new.journal) (g.J.Journal.noted c.note_plain.new.journal) (plain (line.Node c.args.depth.now c.args.seen.now) ∷ []) (plain (line.Wide c.args.words.now) ∷ []) c.note_node.ensures.notes c.note_plain.ensures.notes
