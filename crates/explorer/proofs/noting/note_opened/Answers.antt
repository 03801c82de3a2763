use Rattle.std.proofs.Common.{[], ◌∷◌, ◌++◌}
use Rattle.run_log.specs.declared.line.LogLine.TheVariants as line
use Rattle.run_log.specs.Texts.{plain}
use Rattle.run_log.proofs.Appending.{notes_then}
use Rattle.explorer.specs.Trees.{rest, head_lines, gone_lines}
use Rattle.explorer.specs.Recording.{gone_at}
use Rattle.explorer.proofs.noting.note_opened.Goals as goal

pub returns-clause-notes : goal.returns-clause-notes
returns-clause-notes g c = notes_then (g.J.Journal.noted c.args.journal.now) (g.J.Journal.noted c.note_whole.new.journal) (g.J.Journal.noted c.note_expand.new.journal) (head_lines c.args.depth.now (record { seen = c.args.seen.now; asked = rest c.args.whole.now.offset c.args.whole.now.rest })) (gone_lines (gone_at c.args.places.now c.args.reports.now) ++ (plain (line.Expand c.args.depth.now c.args.cut.now.var c.args.cut.now.at c.args.cut.now.up) ∷ [])) c.note_whole.ensures.notes (notes_then (g.J.Journal.noted c.note_whole.new.journal) (g.J.Journal.noted c.note_gone.new.journal) (g.J.Journal.noted c.note_expand.new.journal) (gone_lines (gone_at c.args.places.now c.args.reports.now)) (plain (line.Expand c.args.depth.now c.args.cut.now.var c.args.cut.now.at c.args.cut.now.up) ∷ []) c.note_gone.ensures.notes c.note_expand.ensures.notes)
