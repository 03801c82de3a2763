use Rattle.std.proofs.Common.{rules}
use Rattle.element_prop.proofs.Meeting.{drop_prunes, drop_none}
use Rattle.element_prop.proofs.places.check_place.Goals as goal

pub returns-in-Empty-clause-prunes : goal.returns-in-Empty-clause-prunes
returns-in-Empty-clause-prunes c = drop_prunes _ _ _ _ _ _ _ c.requires.ready c.requires.place (search rules) c.drop_place.ensures.narrows

pub returns-in-Empty-clause-none : goal.returns-in-Empty-clause-none
returns-in-Empty-clause-none c = λ e. drop_none _ _ _ _ _ _ c.requires.ready c.requires.place (search rules) c.in-Empty.ensures.narrows

pub returns-in-Done-clause-prunes : goal.returns-in-Done-clause-prunes
returns-in-Done-clause-prunes c = drop_prunes _ _ _ _ _ _ _ c.requires.ready c.requires.place (search rules) c.drop_place.ensures.narrows
