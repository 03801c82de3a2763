use Rattle.int_domain.proofs.Words.{mask_inside, mask_below, mask_above}
use Rattle.int_domain.proofs.bits.ones_between.Goals as goal

pub returns-clause-inside : goal.returns-clause-inside
returns-clause-inside c = λ j p q. mask_inside c.args.first c.args.after j c.requires.ordered c.requires.within p q

pub returns-clause-below : goal.returns-clause-below
returns-clause-below c = λ j p. mask_below c.args.first c.args.after j c.requires.ordered c.requires.within p

pub returns-clause-above : goal.returns-clause-above
returns-clause-above c = λ j p. mask_above c.args.first c.args.after j c.requires.ordered c.requires.within p
