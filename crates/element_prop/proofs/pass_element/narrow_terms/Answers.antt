use Rattle.element_prop.proofs.Passing.{within_second}
use Rattle.element_prop.proofs.pass_element.narrow_terms.Goals as goal

pub returns-clause-within : goal.returns-clause-within
returns-clause-within c = λ done e. within_second _ _ _ c.args.store.now c.drop_places.new.store c.bound_terms.new.store c.drop_places.ensures.prunes c.bound_terms.ensures.prunes (c.bound_terms.ensures.within done) e
