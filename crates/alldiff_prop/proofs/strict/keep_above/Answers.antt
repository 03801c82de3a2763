use Rattle.std.proofs.Common.{rules, arith, FitsSigned}
use Rattle.std.specs.Int.{w64}
use Rattle.std.proofs.lemmas.Int.{ints, to_z-of_z}
use Rattle.alldiff_prop.proofs.Beyond.{kept_above, above_idle}
use Rattle.alldiff_prop.proofs.strict.keep_above.Goals as goal

pub returns : goal.returns
returns c =
    let fits : FitsSigned w64 c.after.result = search rules in
    kept_above c.args.term c.args.number.now c.after.result _ _ _ c.after.ensures (simp to_z-of_z at c.cut_below.ensures.narrows)

pub returns-then-number-least : goal.returns-then-number-least
returns-then-number-least c = above_idle c.args.term c.args.number.now c.args.store.now c.least.ensures.well_formed (omega (arith, ints, c.if-number-least.true, c.least.ensures.value))
