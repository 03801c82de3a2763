use Rattle.std.proofs.Common.{arith}
use Rattle.rest_key.proofs.Amounts.{reach_more, reach_less}
use Rattle.rest_key.proofs.used.first_after.Goals as goal

pub loop-first-preserved-then-has_ended : goal.loop-first-preserved-then-has_ended
loop-first-preserved-then-has_ended c = record {
  order = omega arith;
  bound = c.loop-first.invariant.bound;
  before = reach_more _ _ _ _ c.requires (omega (arith, c.loop-first.invariant.bound)) (c.has_ended.ensures.0 c.if-has_ended.true);
  after = c.loop-first.invariant.after;
}

pub loop-first-preserved : goal.loop-first-preserved
loop-first-preserved c = record {
  order = omega arith;
  bound = omega (arith, c.loop-first.invariant.bound);
  before = c.loop-first.invariant.before;
  after = reach_less _ _ _ _ c.requires (omega (arith, c.loop-first.invariant.bound)) (λ h. let t = c.has_ended.ensures.1 h in let f = c.if-has_ended.false in (cc));
}
