use Rattle.std.proofs.Common.{rules, FitsSigned}
use Rattle.std.specs.Int.{w64}
use Rattle.std.proofs.lemmas.Int.{to_z-of_z}
use Rattle.reif_prop.proofs.Finding.{gap_is}
use Rattle.reif_prop.proofs.values.has_in_gap.Goals as goal

pub returns : goal.returns
returns c =
    let f : FitsSigned w64 c.gap_low-low.result = search rules in
    let g : FitsSigned w64 c.gap_high-high.result = search rules in
    let both = gap_is c.args.store.now.box c.args.x c.args.set.now c.args.place c.gap_low-low.result c.gap_high-high.result c.gap_low-low.ensures c.gap_high-high.ensures in
    let within = simp to_z-of_z at c.has_within.ensures in
    ((λ e. both.0 (within.0 e)), (λ h. within.1 (both.1 h)))
