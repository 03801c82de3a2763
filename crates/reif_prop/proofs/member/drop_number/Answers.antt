use Rattle.std.proofs.Common.{rules, FitsSigned}
use Rattle.std.specs.Int.{w64}
use Rattle.std.proofs.lemmas.Int.{to_z-of_z}
use Rattle.reif_prop.proofs.member.drop_number.Goals as goal

pub returns : goal.returns
returns c =
    let f : FitsSigned w64 c.args.value = search rules in
    (simp to_z-of_z at c.drop_value.ensures.narrows).step
