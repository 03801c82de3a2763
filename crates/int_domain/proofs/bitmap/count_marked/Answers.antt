use Rattle.std.proofs.Common.{arith, ◌∙◌}
use Rattle.std.proofs.lemmas.Int.{ints}
use Rattle.int_domain.proofs.Marks.{count_range}
use Rattle.int_domain.proofs.bitmap.count_marked.Goals as goal

pub returns : goal.returns
returns c = c.count_ones_between.ensures ∙ count_range c.args.bitmap.now c.args.low c.args.high c.place_of.result c.place_of-2.result (omega (arith, ints)) (omega (arith, ints)) c.requires.ordered
