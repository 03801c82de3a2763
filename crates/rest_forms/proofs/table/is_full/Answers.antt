use Rattle.std.proofs.Common.{arith}
use Rattle.rest_forms.proofs.FullTables.{full_single}
use Rattle.rest_forms.proofs.table.is_full.Goals as goal

pub returns-in-len1 : goal.returns-in-len1
returns-in-len1 g c =
    full_single (g.V.BoxView.shape c.args.view.now) c.args.members.now c.args.rows.now.keys _ (omega arith) c.low_of-low.ensures.well_formed c.requires.rows c.len.result c.count_of.result c.len.ensures.len c.count_of.ensures
