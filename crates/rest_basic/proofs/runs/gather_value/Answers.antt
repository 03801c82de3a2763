use Rattle.std.proofs.Common.{refl}
use Rattle.rest_basic.proofs.WholeDomains.{added_value}
use Rattle.rest_basic.proofs.runs.gather_value.Goals as goal

pub returns-in_ok-add_greatest : goal.returns-in_ok-add_greatest
returns-in_ok-add_greatest g c = added_value (g.V.BoxView.shape c.args.view.now) c.args.x c.args.bounds.now c.args.number.now c.args.runs.now.items c.add_greatest.new.runs.items c.requires.well_formed c.requires.low c.requires.high c.requires.runs (c.if-is_value.ensures.0 refl) c.in_ok-add_greatest.ensures
