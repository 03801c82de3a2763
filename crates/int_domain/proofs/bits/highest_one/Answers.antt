use Rattle.std.proofs.Common.{rules}
use Rattle.int_domain.proofs.Words.{highest_is_one, above_highest}
use Rattle.int_domain.proofs.bits.highest_one.Goals as goal

pub returns-clause-one : goal.returns-clause-one
returns-clause-one c = highest_is_one c.args.word c.requires (search rules)

pub returns-clause-above : goal.returns-clause-above
returns-clause-above c = above_highest c.args.word c.requires (search rules)
