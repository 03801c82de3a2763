use Rattle.std.proofs.Common.{arith}
use Rattle.int_domain.proofs.Words.{part_place}
use Rattle.int_domain.proofs.bits.last_one.Goals as goal

pub returns-then-word-ne0-clause-bounds : goal.returns-then-word-ne0-clause-bounds
returns-then-word-ne0-clause-bounds c =
    let r = part_place c.part-word.result _ c.highest_one.result c.args.first _ c.highest_one.ensures.within c.highest_one.ensures.one c.part-word.ensures.below c.part-word.ensures.above in
    (r.0, omega (arith, r.1))
