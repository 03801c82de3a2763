use Rattle.std.proofs.Common.{rules, arith, FitsSigned, sym, ◌∙◌, pos}
use Rattle.std.specs.Int.{w128}
use Rattle.std.proofs.lemmas.Int.{to_z-of_z}
use Rattle.fzn_model.specs.declared.cumulative.Used.{Used}
use Rattle.rest_key.proofs.Amounts.{one_at}
use Rattle.rest_key.proofs.used.one_at.Goals as goal

pub returns-clause-value : goal.returns-clause-value
returns-clause-value c =
    let f = c.ranges.moment in
    let place = simp to_z-of_z at c.first_after-place.ensures in
    let value = simp to_z-of_z at c.part_at.ensures.value in
    let none : Used = record { from = pos 0; to = pos 0; amount = pos 0 } in
    let e = one_at c.args.used.now _ none c.args.moment c.requires.apart place (omega (arith, place.bound)) in
    let g : FitsSigned w128 c.part_at.result = search rules in
    simp to_z-of_z (value ∙ sym e)
