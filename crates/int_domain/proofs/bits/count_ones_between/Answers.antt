use Rattle.std.proofs.Common.{rules, arith, ◌≤◌, ◌*◌, ◌/◌, ◌∙◌, sym}
use Rattle.std.proofs.lemmas.Nat.{ones-le}
use Rattle.std.specs.Int.RustNames.{count_ones}
use Rattle.int_domain.proofs.Words.{count_step, count_none, count_all}
use Rattle.int_domain.proofs.bits.count_ones_between.Goals as goal

pub loop-index-init : goal.loop-index-init
loop-index-init c = record {
  count = sym (count_none c.args.words.now c.args.from c.args.end (64 * (c.args.from / 64)) (omega arith));
  small = omega arith;
}

pub loop-index-preserved : goal.loop-index-preserved
loop-index-preserved c =
    let step = count_step c.args.words.now c.args.from c.args.end c.loop-index.index c.part.result c.requires.ordered (search rules) c.part.ensures.inside c.part.ensures.below c.part.ensures.above in
    let few : count_ones c.part.result ≤ 64 = ones-le 64 c.part.result (search rules) in
    record {
      count = omega (arith, step, c.from-count.ensures, c.loop-index.invariant.count);
      small = omega (arith, few, c.from-count.ensures, c.loop-index.invariant.small);
    }

pub returns : goal.returns
returns c =
    c.loop-index.invariant.count ∙ count_all c.args.words.now c.args.from c.args.end (64 * c.loop-index.index) c.requires.ordered (omega arith)
