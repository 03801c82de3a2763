use Rattle.std.proofs.Common.{pos, refl, arith}
use Rattle.std.proofs.lemmas.Int.{ints}
use Rattle.alldiff_prop.proofs.Sweeping.{inner_roomy, inner_full}
use Rattle.alldiff_prop.proofs.sweep.pass_inner.Goals as goal

pub returns-then-count-free : goal.returns-then-count-free
returns-then-count-free c =
    inner_roomy c.args.taken.now c.args.low.now c.args.spans.now c.args.at (pos 0, pos 0) c.args.sweep.now c.requires.at c.requires.swept c.requires.spans c.requires.from (omega (arith, ints)) _ refl (omega (arith, ints)) refl
    (omega (arith, c.room-free.ensures, c.if-count-free.true))

pub returns : goal.returns
returns c =
    inner_full c.args.taken.now c.args.low.now c.args.spans.now c.args.at (pos 0, pos 0) c.args.sweep.now c.requires.at c.requires.swept c.requires.spans c.requires.from (omega (arith, ints)) _ refl (omega (arith, ints)) c.if-sweep.false
    (omega (arith, c.room-free.ensures, c.if-count-free.false, c.if-free-count.false))
