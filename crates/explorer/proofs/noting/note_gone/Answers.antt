use Rattle.std.proofs.Common.{◌<◌, length, take, get_or, refl, rules, ◌∙◌}
use Rattle.evictor.specs.declared.report.Report.TheVariants as report
use Rattle.run_log.proofs.Appending.{notes_then, notes_none}
use Rattle.explorer.specs.Trees.{gone_lines}
use Rattle.explorer.specs.Recording.{gone_one, gone_at}
use Rattle.explorer.proofs.Told.{gone_more}
use Rattle.explorer.proofs.noting.note_gone.Goals as goal

pub all-init : goal.all-init
unfolding gone_at
all-init g c = record { notes = notes_none (g.J.Journal.noted c.args.journal.now); places = refl }

pub all-preserved : goal.all-preserved
all-preserved g c =
    let few : c.all.at < length c.args.places.now = search rules in
    let less : c.all.at < length c.args.reports.now = search rules in
    record {
      notes = rw (gone_more c.args.places.now c.args.reports.now c.all.at few less) (notes_then (g.J.Journal.noted c.args.journal.now) (g.J.Journal.noted c.all.journal) (g.J.Journal.noted c.note_if_gone.new.journal) (gone_lines (gone_at (take c.all.at c.args.places.now) (take c.all.at c.args.reports.now))) (gone_lines (gone_one (get_or c.args.places.now c.all.at 0) (get_or c.args.reports.now c.all.at report.Empty))) c.all.invariant.notes c.note_if_gone.ensures.notes);
      places = c.note_if_gone.ensures.places ∙ c.all.invariant.places;
    }
