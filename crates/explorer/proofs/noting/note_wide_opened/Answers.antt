use Rattle.std.proofs.Common.{[], ◌∷◌}
use Rattle.run_log.specs.declared.line.LogLine.TheVariants as line
use Rattle.run_log.specs.Texts.{plain}
use Rattle.run_log.proofs.Appending.{notes_then}
use Rattle.explorer.specs.Trees.{wide, head_lines}
use Rattle.explorer.proofs.noting.note_wide_opened.Goals as goal

pub returns-clause-notes : goal.returns-clause-notes
returns-clause-notes g c = notes_then (g.J.Journal.noted c.args.journal.now) (g.J.Journal.noted c.note_wide.new.journal) (g.J.Journal.noted c.note_expand.new.journal) (head_lines c.args.depth.now (record { seen = c.args.seen.now; asked = wide c.args.words.now })) (plain (line.Expand c.args.depth.now c.args.cut.now.var c.args.cut.now.at c.args.cut.now.up) ∷ []) c.note_wide.ensures.notes c.note_expand.ensures.notes
