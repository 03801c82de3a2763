use Rattle.std.proofs.Common.{arith, pos}
use Rattle.std.proofs.lemmas.Int.{ints}
use Rattle.fzn_model.specs.declared.term.Term.TheVariants.{Const}
use Rattle.fzn_model.specs.Bounds.{scaled_low, scaled_high}
use Rattle.rest_basic.specs.Forms.{fixed_product}
use Rattle.fzn_model.proofs.LinearBounds.{sum_drop}
use Rattle.rest_basic.proofs.lin.sums_of.Goals as goal

pub loop-term-preserved : goal.loop-term-preserved
loop-term-preserved g c =
    let b = g.V.BoxView.shape c.args.view.now in
    let low = sum_drop (scaled_low b) c.args.terms.now c.loop-term.term-index (pos 0, Const (pos 0)) c.loop-term-test.true in
    let high = sum_drop (scaled_high b) c.args.terms.now c.loop-term.term-index (pos 0, Const (pos 0)) c.loop-term-test.true in
    let fixed = sum_drop (fixed_product b) c.args.terms.now c.loop-term.term-index (pos 0, Const (pos 0)) c.loop-term-test.true in
    record {
      low = omega (arith, ints, low, c.loop-term.invariant.low, c.sums_of_term-sums.ensures.low);
      high = omega (arith, ints, high, c.loop-term.invariant.high, c.sums_of_term-sums.ensures.high);
      fixed = omega (arith, ints, fixed, c.loop-term.invariant.fixed, c.sums_of_term-sums.ensures.fixed);
      small_low = omega (arith, ints);
      small_high = omega (arith, ints);
      small_fixed = omega (arith, ints);
    }
