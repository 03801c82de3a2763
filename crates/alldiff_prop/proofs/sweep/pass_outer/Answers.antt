use Rattle.std.proofs.Common.{pos, refl, arith}
use Rattle.std.proofs.lemmas.Int.{ints}
use Rattle.alldiff_prop.proofs.Sweeping.{outer_ended, outer_crossed}
use Rattle.alldiff_prop.proofs.sweep.pass_outer.Goals as goal

pub returns-then-spans-at : goal.returns-then-spans-at
returns-then-spans-at c = outer_ended c.args.taken.now c.args.low.now c.args.spans.now c.args.at (pos 0, pos 0) c.args.sweep.now c.requires.at c.requires.swept c.requires.before (omega (arith, ints))

pub returns : goal.returns
returns c = outer_crossed c.args.taken.now c.args.low.now c.args.spans.now c.args.at (pos 0, pos 0) c.args.sweep.now c.requires.at c.requires.swept c.requires.before _ refl (omega (arith, ints)) refl (omega (arith, ints))
