use Rattle.std.proofs.Common.{◌≡◌, arith, length}
use Rattle.std.proofs.lemmas.Grind.{common_steps}
use Rattle.rest_global.proofs.Places.{numbered_more}
use Rattle.rest_global.proofs.numbering.add.Goals as goal

pub returns : goal.returns
returns g c =
    let box = g.V.BoxView.shape c.args.view.now in
    let at : c.len.result ≡ length c.args.variables.now.items = grind (arith, common_steps, c.len.ensures) in
    numbered_more box c.args.var c.len.result c.args.variables.now.items c.args.places.now.items c.add_open.new.variables.items c.push.new.self.items c.requires.before at c.in_ok-push.ensures.items c.in_ok-add_open.ensures.variables c.in_ok-add_open.ensures.well_formed
