use Rattle.std.proofs.Common.{rules, FitsSigned}
use Rattle.std.specs.Int.{w64}
use Rattle.std.proofs.lemmas.Int.{to_z-of_z}
use Rattle.reif_prop.proofs.Finding.{first_gap}
use Rattle.reif_prop.proofs.values.gap_low.Goals as goal

pub returns-then-place-eq0 : goal.returns-then-place-eq0
returns-then-place-eq0 c =
    let f : FitsSigned w64 c.least.result = search rules in
    simp to_z-of_z (first_gap c.args.store.now.box c.args.x c.args.set.now c.args.place c.least.result c.least.ensures.well_formed c.requires.term c.least.ensures.value (search rules))
