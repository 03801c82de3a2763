use Rattle.std.proofs.Common.{rules}
use Rattle.dom_store.specs.Steps.{LowIs, HighIs}
use Rattle.dom_store.proofs.Laws.{prunes_trans}
use Rattle.element_prop.specs.Between.{LiesBetween}
use Rattle.element_prop.proofs.Limiting.{from_low, to_high, never, never_after, low_stays}
use Rattle.element_prop.proofs.between.limit.Goals as goal

pub returns-in-Empty-clause-prunes : goal.returns-in-Empty-clause-prunes
returns-in-Empty-clause-prunes c = (from_low c.args.term c.args.low.now c.args.high.now _ _ _ c.cut_below.ensures.narrows).prunes

pub returns-in-Empty-clause-none : goal.returns-in-Empty-clause-none
returns-in-Empty-clause-none c = λ e. never _ _ _ _ _ _ (from_low c.args.term c.args.low.now c.args.high.now _ _ _ c.in-Empty.ensures.narrows)

pub returns-in-Empty-cut_above-clause-prunes : goal.returns-in-Empty-cut_above-clause-prunes
returns-in-Empty-cut_above-clause-prunes c =
    prunes_trans (LiesBetween c.args.term c.args.low.now c.args.high.now) _ _ _ (from_low c.args.term c.args.low.now c.args.high.now _ _ _ c.cut_below.ensures.narrows).prunes (to_high c.args.term c.args.low.now c.args.high.now _ _ _ c.cut_above.ensures.narrows).prunes

pub returns-in-Empty-cut_above-clause-none : goal.returns-in-Empty-cut_above-clause-none
returns-in-Empty-cut_above-clause-none c = λ e.
    never_after _ _ _ _ _ _ _ _ (from_low c.args.term c.args.low.now c.args.high.now _ _ _ c.in_default.ensures.narrows) (to_high c.args.term c.args.low.now c.args.high.now _ _ _ c.in-Empty-cut_above.ensures.narrows)

pub returns-clause-prunes : goal.returns-clause-prunes
returns-clause-prunes c =
    prunes_trans (LiesBetween c.args.term c.args.low.now c.args.high.now) _ _ _ (from_low c.args.term c.args.low.now c.args.high.now _ _ _ c.cut_below.ensures.narrows).prunes (to_high c.args.term c.args.low.now c.args.high.now _ _ _ c.cut_above.ensures.narrows).prunes

pub returns-clause-low : goal.returns-clause-low
unfolding LowIs
returns-clause-low c = λ e.
    low_stays c.args.term c.args.low.now c.args.high.now c.cut_below.new.store c.cut_above.new.store c.cut_below.ensures.narrows.step.well_formed c.cut_above.ensures.narrows.step.well_formed (search rules) (to_high c.args.term c.args.low.now c.args.high.now _ _ _ c.cut_above.ensures.narrows).prunes (c.cut_below.ensures.reached c.in_default.not-Empty)

pub returns-clause-high : goal.returns-clause-high
unfolding HighIs
returns-clause-high c = λ e. c.cut_above.ensures.reached c.in_default-cut_above.not-Empty
