use Rattle.std.proofs.Common.{rules, ◌≡◌, ◌<◌, ℕ, List, length, take, slice_index, refl, sym, ap, subst, ◌∙◌, FitsSigned}
use Rattle.std.specs.Int.{w128}
use Rattle.std.specs.declared.option.Option.{Option}
use Rattle.std.proofs.lemmas.Int.{to_z-of_z}
use Rattle.std.proofs.Math.Seq.{take-length}
use Rattle.std.proofs.lemmas.List.{take_more, take_more_set, length-set}
use Rattle.entry_slab.specs.Contents.{Contents}
use Rattle.evictor.specs.declared.report.Report.{Report}
use Rattle.evictor.specs.declared.found.Found.TheVariants as found
use Rattle.evictor.specs.Passes.{word_at}
use Rattle.evictor.specs.Reports.{IsReport, IsServed, AreReports, IsScan, gone_count, gone_by}
use Rattle.evictor.specs.Readers.{raised}
use Rattle.evictor.proofs.Scanning.{reports_more, gone_more, raised_more, at_most_one, absences_more}
use Rattle.evictor.proofs.scan.scan.Goals as goal

pub loop-at-init : goal.loop-at-init
unfolding AreReports gone_count
loop-at-init g c = record {
  count = refl;
  reports = tt;
  contents = refl;
  refusals = refl;
  absences = record { none = λ _. refl; some = λ some. absurd (some refl) };
  gone = refl;
}

pub loop-at-preserved : goal.loop-at-preserved
loop-at-preserved g c =
    let inside : c.loop-at.at < length c.args.places.now = search rules in
    let inside' : c.loop-at.at < length c.loop-at.reports = search rules in
    let now = take_more_set c.loop-at.reports c.loop-at.at c.in-Not.report inside' in
    let counted = ap gone_count now ∙ gone_more (take c.loop-at.at c.loop-at.reports) c.in-Not.report in
    let is : IsReport (g.H.Shelf.contents c.args.shelf.now) c.args.rest.now c.args.need.now (word_at c.args.words.now (slice_index c.args.places.now c.loop-at.at)) c.in-Not.report = subst (λ (told : Option Contents). IsReport told c.args.rest.now c.args.need.now (word_at c.args.words.now (slice_index c.args.places.now c.loop-at.at)) c.in-Not.report) c.loop-at.invariant.contents c.in-Not.ensures.found in
    record {
      count = length-set c.loop-at.reports c.loop-at.at c.in-Not.report ∙ c.loop-at.invariant.count;
      reports = rw now (rw (take_more c.args.places.now c.loop-at.at 0 inside) (reports_more (g.H.Shelf.contents c.args.shelf.now) c.args.words.now c.args.rest.now c.args.need.now (take c.loop-at.at c.args.places.now) (take c.loop-at.at c.loop-at.reports) (slice_index c.args.places.now c.loop-at.at) c.in-Not.report c.loop-at.invariant.reports is));
      contents = c.in-Not.ensures.contents ∙ c.loop-at.invariant.contents;
      refusals = c.in-Not.ensures.refusals ∙ c.loop-at.invariant.refusals;
      absences = rw counted (absences_more (gone_count (take c.loop-at.at c.loop-at.reports)) (gone_by (found.Not c.in-Not.report)) _ _ _ c.loop-at.invariant.absences c.in-Not.ensures.absences);
      gone = c.in-Not.ensures.gone ∙ ap (λ n. raised n (gone_by (found.Not c.in-Not.report))) c.loop-at.invariant.gone ∙ raised_more c.args.gone.now (gone_count (take c.loop-at.at c.loop-at.reports)) (gone_by (found.Not c.in-Not.report)) (at_most_one (found.Not c.in-Not.report)) ∙ ap (raised c.args.gone.now) (sym counted);
    }

pub returns-in-Serves-clause-scan : goal.returns-in-Serves-clause-scan
unfolding IsScan
returns-in-Serves-clause-scan g c =
    let inside : c.loop-at.at < length c.args.places.now = search rules in
    let fits : FitsSigned w128 c.in-Serves.bound = search rules in
    let is : IsServed (g.H.Shelf.contents c.args.shelf.now) c.args.rest.now c.args.need.now (word_at c.args.words.now (slice_index c.args.places.now c.loop-at.at)) c.in-Serves.bound = subst (λ (told : Option Contents). IsServed told c.args.rest.now c.args.need.now (word_at c.args.words.now (slice_index c.args.places.now c.loop-at.at)) c.in-Serves.bound) c.loop-at.invariant.contents c.in-Serves.ensures.found in
    (inside, c.loop-at.invariant.reports, rw (to_z-of_z w128 c.in-Serves.bound fits) is)

pub returns-clause-scan : goal.returns-clause-scan
unfolding IsScan
returns-clause-scan g c =
    let whole : c.loop-at.at ≡ 8 = search rules in
    let places : take c.loop-at.at c.args.places.now ≡ c.args.places.now = ap (λ n. take n c.args.places.now) (whole ∙ sym c.told-places) ∙ take-length c.args.places.now in
    let reports : take c.loop-at.at c.loop-at.reports ≡ c.loop-at.reports = ap (λ n. take n c.loop-at.reports) (whole ∙ sym c.loop-at.invariant.count) ∙ take-length c.loop-at.reports in
    subst (λ (qs : List Report). AreReports (g.H.Shelf.contents c.args.shelf.now) c.args.words.now c.args.rest.now c.args.need.now c.args.places.now qs) reports (subst (λ (ps : List ℕ). AreReports (g.H.Shelf.contents c.args.shelf.now) c.args.words.now c.args.rest.now c.args.need.now ps (take c.loop-at.at c.loop-at.reports)) places c.loop-at.invariant.reports)
