use Rattle.std.proofs.Common.{pos, FitsSigned, w64, rules}
use Rattle.std.proofs.lemmas.Int.{to_z-of_z}
use Rattle.fzn_model.specs.declared.cumulative.Used.{Used}
use Rattle.cumul_prop.proofs.Ending.{next_end}
use Rattle.cumul_prop.proofs.fits.next_after.Goals as goal

pub returns-in-Some : goal.returns-in-Some
returns-in-Some c =
    let f : FitsSigned w64 c.end_at.result = search rules in
    let none : Used = record { from = pos 0; to = pos 0; amount = pos 0 } in
    simp to_z-of_z (next_end c.args.all.now c.args.moment.now c.end_at.result c.in-Some.at none c.requires.parts c.in-Some.ensures c.end_at.ensures)
