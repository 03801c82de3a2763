use Rattle.element_prop.proofs.Passing.{ready_on, meets_again}
use Rattle.dom_store.proofs.Laws.{prunes_trans}
use Rattle.element_prop.proofs.Meeting.{meets_found}
use Rattle.element_prop.proofs.places.check_places.Goals as goal

pub loop-place-preserved : goal.loop-place-preserved
loop-place-preserved c =
    let first = c.loop-place.invariant.prunes in
    let second = c.check_place.ensures.prunes in
    record {
      prunes = prunes_trans _ _ _ _ first second;
      ready = ready_on _ _ _ _ _ _ second c.check_place.ensures.is c.loop-place.invariant.ready;
      meets = λ e. meets_again _ _ _ _ _ _ _ _ first second c.loop-place.invariant.meets (meets_found _ _ _ _ _ _ c.in_default.not-Empty c.check_place.ensures.is_found) e;
    }
