use Rattle.std.proofs.Common.{FitsSigned, w64, rules}
use Rattle.std.proofs.lemmas.Int.{to_z-of_z}
use Rattle.cumul_prop.proofs.Placing.{least_here, least_there}
use Rattle.cumul_prop.proofs.fits.least_start.Goals as goal

pub returns-then-clashes : goal.returns-then-clashes
returns-then-clashes c =
    let f : FitsSigned w64 c.next_after.result = search rules in
    simp to_z-of_z (least_here c.args.all.now c.args.profile.now c.args.place.now c.args.low.now c.next_after.result c.requires.place c.requires.low (c.clashes.ensures.0 c.if-clashes.true) c.next_after.ensures)

pub returns-in-Some : goal.returns-in-Some
returns-in-Some c =
    let f : FitsSigned w64 c.next_after_place.result = search rules in
    simp to_z-of_z (least_there c.args.all.now c.args.profile.now c.args.place.now c.args.low.now c.next_after_place.result c.in-Some.at c.in-Some.ensures.some.1 c.next_after_place.ensures)
