use Rattle.std.proofs.Common.{FitsSigned, rules}
use Rattle.std.specs.Int.{w128}
use Rattle.std.proofs.lemmas.Int.{to_z-of_z}
use Rattle.explorer.proofs.Resting.{looked_at}
use Rattle.explorer.proofs.down.look_up.Goals as goal

pub returns-clause-look : goal.returns-clause-look
returns-clause-look g c =
    let fits : FitsSigned w128 c.args.need.now = search rules in
    looked_at c.args.rest.now c.args.need.now _ c.lookup.result c.args.reader.now c.lookup.new.reader c.lookup.ensures.look (to_z-of_z w128 c.args.need.now fits)
