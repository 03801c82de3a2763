use Rattle.std.proofs.Common.{rules, refl, sym, subst}
use Rattle.element_prop.specs.Places.{IsJoined}
use Rattle.element_prop.proofs.Passing.{ready_first, ready_on, joined_second}
use Rattle.element_prop.proofs.Owing.{element_concludes, impossible_none}
use Rattle.element_prop.proofs.pass_element.pass_element.Goals as goal

pub returns-in-Empty-clause-means : goal.returns-in-Empty-clause-means
returns-in-Empty-clause-means c = impossible_none _ _ _ _ (c.in-Empty.ensures.none refl)

pub returns-clause-means : goal.returns-clause-means
returns-clause-means c =
    let first = c.bound_index.ensures.prunes in
    let ready = ready_on _ _ _ _ c.args.store.now c.bound_index.new.store first c.bound_index.ensures.is (ready_first _ _ _ _ c.recall_domains.ensures.domains c.requires) in
    element_concludes _ _ _ _ _ _ _ first c.narrow_terms.ensures.prunes ready (search rules) c.narrow_terms.ensures.meets c.narrow_terms.ensures.within c.narrow_terms.ensures.none

pub returns-clause-joined : goal.returns-clause-joined
returns-clause-joined c = λ done e.
    subst (λ box. IsJoined box c.args.index c.args.members.now c.args.chosen) (sym e) (joined_second _ _ _ _ _ _ _ c.bound_index.ensures.prunes c.narrow_terms.ensures.prunes (c.narrow_terms.ensures.joined done) e)
