use Rattle.std.proofs.Common.{rules, arith, FitsSigned, ◌≤ℤ◌, pos}
use Rattle.std.specs.Int.{w64}
use Rattle.std.proofs.lemmas.Int.{ints, to_z-of_z}
use Rattle.element_prop.proofs.Ending.{high_is_some}
use Rattle.element_prop.proofs.index.places_to.Goals as goal

pub count_to-requires : goal.count_to-requires
count_to-requires c =
    let f : FitsSigned w64 c.greatest.result = search rules in
    let some = high_is_some _ _ _ c.requires.well_formed c.requires.index c.requires.indexed in
    let number : pos 0 ≤ℤ c.greatest.result = omega (arith, ints, some, c.greatest.ensures.value) in
    record { number = simp to_z-of_z number }
