use Rattle.std.proofs.Common.{refl, rules, FitsSigned}
use Rattle.std.specs.Int.{w64}
use Rattle.std.proofs.lemmas.Int.{to_z-of_z}
use Rattle.lin_prop.proofs.Scaling.{Fit, signed_above, signed_below, signed_covered}
use Rattle.lin_prop.proofs.scaled.cap_scaled.Goals as goal

pub returns-then-rises : goal.returns-then-rises
returns-then-rises c =
    let s : FitsSigned w64 c.args.slack.now = search rules in
    let f : FitsSigned w64 c.size_of-size.result = search rules in
    let g : FitsSigned w64 c.times_in-steps.result = search rules in
    let fit : Fit c.args.slack.now c.size_of-size.result c.times_in-steps.result = record { fits = simp to_z-of_z at c.times_in-steps.ensures.fits; next = simp to_z-of_z at c.times_in-steps.ensures.next } in
    signed_above c.args.store.now c.cut_above_steps.new.store c.args.negated c.args.scaled.now c.size_of-size.result c.times_in-steps.result c.args.slack.now _ c.least-low.ensures.well_formed c.requires.term (c.if-rises.ensures.up refl) c.size_of-size.ensures.value fit (simp to_z-of_z at c.cut_above_steps.ensures)

pub returns-else-rises : goal.returns-else-rises
returns-else-rises c =
    let s : FitsSigned w64 c.args.slack.now = search rules in
    let f : FitsSigned w64 c.size_of-size.result = search rules in
    let g : FitsSigned w64 c.times_in-steps.result = search rules in
    let fit : Fit c.args.slack.now c.size_of-size.result c.times_in-steps.result = record { fits = simp to_z-of_z at c.times_in-steps.ensures.fits; next = simp to_z-of_z at c.times_in-steps.ensures.next } in
    signed_below c.args.store.now c.cut_below_steps.new.store c.args.negated c.args.scaled.now c.size_of-size.result c.times_in-steps.result c.args.slack.now _ c.least-low.ensures.well_formed c.requires.term (c.if-rises.ensures.down refl) c.size_of-size.ensures.value fit (simp to_z-of_z at c.cut_below_steps.ensures)

pub returns-then-is_covered : goal.returns-then-is_covered
returns-then-is_covered c =
    let f : FitsSigned w64 c.least-low.result = search rules in
    let g : FitsSigned w64 c.greatest-high.result = search rules in
    signed_covered c.args.negated c.args.scaled.now c.args.slack.now _ _ c.args.store.now c.least-low.ensures.well_formed c.requires.term c.least-low.ensures.value c.greatest-high.ensures.value (simp to_z-of_z at c.is_covered.ensures.yes c.if-is_covered.true)
