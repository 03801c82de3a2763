use Rattle.std.proofs.Common.{rules}
use Rattle.element_prop.proofs.Limiting.{limits_run, limits_none, index_bounded}
use Rattle.element_prop.proofs.index.bound_index.Goals as goal

pub returns-clause-prunes : goal.returns-clause-prunes
returns-clause-prunes c = limits_run _ _ _ _ _ _ _ _ (index_bounded _ _ _ _ _ (search rules)) c.limit.ensures.prunes

pub returns-clause-none : goal.returns-clause-none
returns-clause-none c = λ e. limits_none _ _ _ _ _ _ _ (index_bounded _ _ _ _ _ (search rules)) (c.limit.ensures.none e)
