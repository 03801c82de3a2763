use Rattle.std.proofs.Common.{◌+◌, ◌-◌, ◌≤ℤ◌, pos, arith}
use Rattle.std.proofs.lemmas.Int.{ints}
use Rattle.fzn_model.specs.Bounds.{term_high}
use Rattle.element_prop.proofs.Passing.{ready_on}
use Rattle.dom_store.proofs.Laws.{prunes_trans}
use Rattle.element_prop.proofs.Meeting.{falls_on, last_met, none_left}
use Rattle.element_prop.proofs.places.drop_last.Goals as goal

pub returns-in-Met-clause-met : goal.returns-in-Met-clause-met
returns-in-Met-clause-met c = λ e.
    let most : term_high c.loop-gone.store.box c.args.index ≤ℤ pos (c.places_to-end.result - 1 - (c.loop-gone.gone - c.first_place-first.result) + 1) = omega (arith, ints, c.loop-gone.invariant.most, c.loop-gone-test.true) in
    last_met _ _ _ _ _ _ c.check_place.ensures.prunes c.loop-gone.invariant.ready c.check_place.ensures.is most c.in-Met.ensures.is_found

pub loop-gone-preserved : goal.loop-gone-preserved
loop-gone-preserved c =
    let most : term_high c.loop-gone.store.box c.args.index ≤ℤ pos (c.places_to-end.result - 1 - (c.loop-gone.gone - c.first_place-first.result) + 1) = omega (arith, ints, c.loop-gone.invariant.most, c.loop-gone-test.true) in
    let second = c.check_place.ensures.prunes in
    let fell = falls_on _ _ _ _ _ _ second c.loop-gone.invariant.ready c.check_place.ensures.is most c.in-Gone.ensures.is_found in
    record {
      prunes = prunes_trans _ _ _ _ c.loop-gone.invariant.prunes second;
      ready = ready_on _ _ _ _ _ _ second c.check_place.ensures.is c.loop-gone.invariant.ready;
      most = omega (arith, ints, fell, c.loop-gone.auto.gone);
    }

pub returns-clause-met : goal.returns-clause-met
returns-clause-met c = λ e.
    let most : term_high c.loop-gone.store.box c.args.index ≤ℤ pos c.first_place-first.result = omega (arith, ints, c.loop-gone.invariant.most, c.loop-gone-test.false) in
    none_left _ _ _ _ _ _ c.loop-gone.invariant.prunes c.requires.ready c.loop-gone.invariant.ready.well_formed c.first_place-first.ensures.value most
