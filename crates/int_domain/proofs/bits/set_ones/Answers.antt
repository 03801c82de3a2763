use Rattle.std.proofs.Common.{◌/◌, ◌<◌, arith, rules, ⊎_elim, ◌∙◌}
use Rattle.std.proofs.lemmas.Bool.{cases_eq}
use Rattle.int_domain.proofs.Words.{bit_of_or_one, bit_of_or_zero, bit_of_or_other}
use Rattle.int_domain.proofs.bits.set_ones.Goals as goal

pub loop-index-preserved : goal.loop-index-preserved
loop-index-preserved c =
    let here : c.loop-index.index < 16 = omega arith in
    record {
      long = search rules;
      inside = λ k row from before. ⊎_elim
          (λ same. bit_of_or_one c.loop-index.words c.loop-index.index c.mask.result k (omega arith) same (c.mask.ensures.inside k same from before))
          (λ other. bit_of_or_other c.loop-index.words c.loop-index.index c.mask.result k other ∙ c.loop-index.invariant.inside k (omega arith) from before)
          (cases_eq (k / 64) c.loop-index.index);
      below = λ k before. bit_of_or_zero c.loop-index.words c.loop-index.index c.mask.result k (omega arith) (λ row. c.mask.ensures.below k row before) ∙ c.loop-index.invariant.below k before;
      above = λ k behind. bit_of_or_zero c.loop-index.words c.loop-index.index c.mask.result k (omega arith) (λ row. c.mask.ensures.above k row behind) ∙ c.loop-index.invariant.above k behind;
    }
