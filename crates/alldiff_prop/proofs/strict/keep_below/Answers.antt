use Rattle.std.proofs.Common.{rules, arith, FitsSigned}
use Rattle.std.specs.Int.{w64}
use Rattle.std.proofs.lemmas.Int.{ints, to_z-of_z}
use Rattle.alldiff_prop.proofs.Beyond.{kept_below, below_idle}
use Rattle.alldiff_prop.proofs.strict.keep_below.Goals as goal

pub returns : goal.returns
returns c =
    let fits : FitsSigned w64 c.ahead_of.result = search rules in
    kept_below c.args.term c.args.number.now c.ahead_of.result _ _ _ c.ahead_of.ensures (simp to_z-of_z at c.cut_above.ensures.narrows)

pub returns-then-greatest-number : goal.returns-then-greatest-number
returns-then-greatest-number c = below_idle c.args.term c.args.number.now c.args.store.now c.greatest.ensures.well_formed (omega (arith, ints, c.if-greatest-number.true, c.greatest.ensures.value))
