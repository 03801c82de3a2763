use Rattle.std.proofs.Common.{ℤ, pos, rules, FitsSigned, arith}
use Rattle.std.proofs.lemmas.Int.{ints, to_z-of_z}
use Rattle.std.specs.Int.{w64}
use Rattle.fzn_model.specs.declared.term.Term.{Term}
use Rattle.fzn_model.specs.declared.term.Term.TheVariants.{Const}
use Rattle.fzn_model.specs.Bounds.{scaled_low, scaled_high}
use Rattle.fzn_model.proofs.LinearBounds.{sum_drop, sum_none}
use Rattle.dom_store.proofs.Bounded.{rises_none, rises_more, rises_all}
use Rattle.dom_store.proofs.sums.reach_of.Goals as goal

pub loop-scaled-init : goal.loop-scaled-init
loop-scaled-init c = record {
  least = omega (arith, ints);
  most = omega (arith, ints);
  rises = rises_none c.args.store.now.box c.args.terms.now _;
  small_low = omega (arith, ints);
  small_high = omega (arith, ints);
}

pub loop-scaled-preserved : goal.loop-scaled-preserved
loop-scaled-preserved c =
    let d : ℤ × Term = (pos 0, Const (pos 0)) in
    let i = c.loop-scaled.scaled-index in
    let ts = c.args.terms.now in
    let low = sum_drop (scaled_low c.args.store.now.box) ts i d c.loop-scaled-test.true in
    let high = sum_drop (scaled_high c.args.store.now.box) ts i d c.loop-scaled-test.true in
    let f : FitsSigned w64 c.max-rise.result = search rules in
    let g : FitsSigned w64 c.reach_of_one-one.result.rise = search rules in
    record {
      least = omega (arith, ints, low, c.loop-scaled.invariant.least, c.reach_of_one-one.ensures.low);
      most = omega (arith, ints, high, c.loop-scaled.invariant.most, c.reach_of_one-one.ensures.high);
      rises = simp to_z-of_z (rises_more c.args.store.now.box ts i d _ c.reach_of_one-one.result.rise c.max-rise.result c.loop-scaled-test.true c.loop-scaled.invariant.rises c.reach_of_one-one.ensures.rise (simp to_z-of_z at c.max-rise.ensures.value));
      small_low = omega (arith, ints);
      small_high = omega (arith, ints);
    }

pub returns : goal.returns
returns c =
    let low = sum_none (scaled_low c.args.store.now.box) c.args.terms.now c.loop-scaled.scaled-index c.loop-scaled-test.false in
    let high = sum_none (scaled_high c.args.store.now.box) c.args.terms.now c.loop-scaled.scaled-index c.loop-scaled-test.false in
    record {
      least = omega (arith, ints, low, c.loop-scaled.invariant.least);
      most = omega (arith, ints, high, c.loop-scaled.invariant.most);
      rises = rises_all c.args.store.now.box c.args.terms.now c.loop-scaled.scaled-index _ c.loop-scaled-test.false c.loop-scaled.invariant.rises;
    }
