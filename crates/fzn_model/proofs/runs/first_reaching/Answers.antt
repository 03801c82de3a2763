use Rattle.std.proofs.Common.{arith}
use Rattle.fzn_model.proofs.Reaching.{reach_more, reach_less}
use Rattle.fzn_model.proofs.runs.first_reaching.Goals as goal

pub loop-first-preserved-then-ends_below : goal.loop-first-preserved-then-ends_below
loop-first-preserved-then-ends_below c = record {
  order = omega arith;
  bound = c.loop-first.invariant.bound;
  before = reach_more _ _ _ _ c.requires (omega (arith, c.loop-first.invariant.bound)) (c.ends_below.ensures.0 c.if-ends_below.true);
  after = c.loop-first.invariant.after;
}

pub loop-first-preserved : goal.loop-first-preserved
loop-first-preserved c = record {
  order = omega arith;
  bound = omega (arith, c.loop-first.invariant.bound);
  before = c.loop-first.invariant.before;
  after = reach_less _ _ _ _ c.requires (omega (arith, c.loop-first.invariant.bound)) (λ h. let t = c.ends_below.ensures.1 h in let f = c.if-ends_below.false in (cc));
}
