use Rattle.std.proofs.Common.{[], ◌∷◌, FitsSigned, w64, rules, subst, of_z, to_z, ℤ}
use Rattle.std.proofs.lemmas.Int.{to_z-of_z}
use Rattle.run_log.specs.declared.line.LogLine.TheVariants as line
use Rattle.run_log.specs.Texts.{plain}
use Rattle.run_log.specs.Journals.{Notes}
use Rattle.run_log.proofs.Appending.{notes_then}
use Rattle.explorer.specs.Trees.{rest, head_lines, hit, tree_lines}
use Rattle.explorer.proofs.noting.note_hit.Goals as goal

pub returns-clause-notes : goal.returns-clause-notes
unfolding tree_lines
returns-clause-notes g c = notes_then (g.J.Journal.noted c.args.journal.now) (g.J.Journal.noted c.note_whole.new.journal) (g.J.Journal.noted c.note_plain.new.journal) (head_lines c.args.depth.now (record { seen = c.args.seen.now; asked = rest c.args.whole.now.offset c.args.whole.now.rest })) (plain (line.Hit c.args.depth.now c.args.seen.now c.args.place.now) ∷ []) c.note_whole.ensures.notes (let fits : FitsSigned w64 c.args.seen.now = search rules in subst (λ (z : ℤ). Notes (g.J.Journal.noted c.note_whole.new.journal) (g.J.Journal.noted c.note_plain.new.journal) (plain (line.Hit c.args.depth.now z c.args.place.now) ∷ [])) (to_z-of_z w64 c.args.seen.now fits) c.note_plain.ensures.notes)
