use Rattle.std.proofs.Common.{◌≡◌, Some, sym, ap, ◌∙◌, inl, inr, subst, rules, FitsSigned}
use Rattle.std.specs.Int.{w128}
use Rattle.std.proofs.lemmas.Int.{to_z-of_z}
use Rattle.entry_slab.specs.Contents.{entry_under}
use Rattle.entry_slab.specs.Listed.{Listed, contents_of}
use Rattle.entry_slab.specs.Readings.{IsReading, CountsAbsence}
use Rattle.entry_slab.proofs.ReadEntries.{reading_of, counts_none, loses}
use Rattle.entry_slab.proofs.list_shelf.ListShelfShelf.with.Goals as goal

pub returns-then-self-eq1-clause-reading : goal.returns-then-self-eq1-clause-reading
unfolding IsReading
returns-then-self-eq1-clause-reading c = inr (loses c.args.self.now.lose (search rules))

pub returns-then-self-eq1-clause-absences : goal.returns-then-self-eq1-clause-absences
unfolding CountsAbsence
returns-then-self-eq1-clause-absences c = search rules

pub returns-in-Some-clause-reading : goal.returns-in-Some-clause-reading
returns-in-Some-clause-reading c = reading_of (Some (contents_of c.args.self.now)) c.args.key c.args.rest.now c.args.need c.in-Some.entry.now c.read.result (record { truth = c.read.ensures.truth; place = ap (λ (s : Listed). entry_under s.entries c.args.key) (sym c.self.view_is) ∙ sym c.in-Some.ensures }) (let fits : FitsSigned w128 c.args.need = search rules in rw (to_z-of_z w128 c.args.need fits) at c.read.ensures.says)

pub returns-in-Some-clause-absences : goal.returns-in-Some-clause-absences
returns-in-Some-clause-absences c =
    let same : c.args.self.now.absences ≡ c.self.inside.absences = ap (λ (s : Listed). s.absences) (sym c.self.view_is) in
    subst (λ n. CountsAbsence c.read.result c.args.self.now.absences n) same (counts_none c.args.rest.now _ c.in-Some.entry.now c.read.result c.args.self.now.absences c.read.ensures.says)

pub returns-in-None-clause-reading : goal.returns-in-None-clause-reading
unfolding IsReading
returns-in-None-clause-reading c = inl (ap (λ (s : Listed). entry_under s.entries c.args.key) (sym c.self.view_is) ∙ sym c.in-None.ensures)

pub returns-in-None-clause-absences : goal.returns-in-None-clause-absences
unfolding CountsAbsence
returns-in-None-clause-absences c = search rules
