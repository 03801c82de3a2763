use Rattle.std.proofs.Common.{pos, arith}
use Rattle.std.proofs.lemmas.Int.{ints}
use Rattle.fzn_model.specs.declared.term.Term.TheVariants.{Const}
use Rattle.fzn_model.proofs.Sums.{lin_sum-drop}
use Rattle.fzn_model.proofs.lin.sum_of.Goals as goal

pub loop-term-preserved : goal.loop-term-preserved
loop-term-preserved c =
    let e = lin_sum-drop c.args.terms.now c.loop-term.term-index (pos 0, Const (pos 0)) c.args.values.now c.loop-term-test.true in
    record { told = omega (arith, ints, e, c.loop-term.invariant.told, c.scaled-sum.ensures.value); small = omega (arith, ints) }
