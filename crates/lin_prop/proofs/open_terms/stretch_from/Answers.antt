use Rattle.std.proofs.Common.{◌≡◌, pos, get_or, ap, ◌*ℤ◌, ◌∙◌, rules, FitsSigned, arith}
use Rattle.std.proofs.lemmas.Int.{ints, to_z-of_z}
use Rattle.std.specs.Int.{w64}
use Rattle.fzn_model.specs.declared.term.Term.TheVariants.{Const}
use Rattle.fzn_model.specs.Bounds.{IsFixed, scaled_low, term_low}
use Rattle.fzn_model.proofs.LinearBounds.{sum_drop, scaled_fixed}
use Rattle.lin_prop.proofs.Opening.{between_more}
use Rattle.lin_prop.proofs.open_terms.stretch_from.Goals as goal

pub loop-i-preserved : goal.loop-i-preserved
loop-i-preserved c =
    let box = c.args.store.now.box in
    let t = get_or c.args.terms.now c.loop-i.i (pos 0, Const (pos 0)) in
    let here : IsFixed box t.1 = omega (arith, ints) in
    let next = sum_drop (scaled_low box) c.args.terms.now c.loop-i.i (pos 0, Const (pos 0)) c.loop-i-test.true in
    let value : scaled_low box t ≡ t.0 *ℤ term_low box t.1 = scaled_fixed box t here in
    let f : FitsSigned w64 c.least-low.result = search rules in
    let product : c.product-sum.result ≡ t.0 *ℤ term_low box t.1 = (simp to_z-of_z at c.product-sum.ensures.value) ∙ ap (λ x. t.0 *ℤ x) c.least-low.ensures.value in
    record {
      fixed = between_more box c.args.terms.now c.args.from c.loop-i.i (pos 0, Const (pos 0)) c.loop-i-test.true c.loop-i.invariant.fixed here;
      total = omega (arith, ints, next, value, product, c.loop-i.invariant.total);
      small = omega (arith, ints);
    }
