use Rattle.std.proofs.Common.{[], ◌∷◌}
use Rattle.run_log.specs.declared.line.LogLine.TheVariants as line
use Rattle.run_log.specs.Texts.{plain, with_rest}
use Rattle.run_log.proofs.Appending.{notes_then}
use Rattle.explorer.proofs.noting.note_whole.Goals as goal

pub returns-clause-notes : goal.returns-clause-notes
returns-clause-notes g c = notes_then (g.J.Journal.noted c.args.journal.now) (g.J.Journal.noted c.note_node.new.journal) (g.J.Journal.noted c.note_rest.new.journal) (plain (line.Node c.args.depth.now c.args.seen.now) ∷ []) (with_rest (line.Rest c.args.whole.now.offset) c.args.whole.now.rest ∷ []) c.note_node.ensures.notes c.note_rest.ensures.notes
