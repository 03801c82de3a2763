use Rattle.std.proofs.Common.{rules, FitsSigned}
use Rattle.std.specs.Int.{w64}
use Rattle.std.proofs.lemmas.Int.{to_z-of_z}
use Rattle.rest_forms.proofs.ValueTests.{has_value}
use Rattle.rest_forms.proofs.values.term_has.Goals as goal

pub returns : goal.returns
returns g c =
    let f : FitsSigned w64 c.args.value.now = search rules in
    has_value (g.V.BoxView.shape c.args.view.now) c.args.term c.args.value.now c.can_have.result (simp to_z-of_z at c.can_have.ensures)
