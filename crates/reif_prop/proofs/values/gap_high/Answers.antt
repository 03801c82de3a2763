use Rattle.std.proofs.Common.{rules, FitsSigned}
use Rattle.std.specs.Int.{w64}
use Rattle.std.proofs.lemmas.Int.{to_z-of_z}
use Rattle.reif_prop.proofs.Finding.{last_gap}
use Rattle.reif_prop.proofs.values.gap_high.Goals as goal

pub returns-then-place-set : goal.returns-then-place-set
returns-then-place-set c =
    let f : FitsSigned w64 c.greatest.result = search rules in
    simp to_z-of_z (last_gap c.args.store.now.box c.args.x c.args.set.now c.args.place c.greatest.result c.greatest.ensures.well_formed c.requires.term c.greatest.ensures.value (search rules))
