use Rattle.std.proofs.lemmas.Bool.{iff_false}
use Rattle.alldiff_prop.proofs.Owing.{ready_first, taken_concludes, free_says}
use Rattle.alldiff_prop.proofs.pass_all_different.pass_all_different.Goals as goal

pub returns-then-not-are_free-clause-means : goal.returns-then-not-are_free-clause-means
returns-then-not-are_free-clause-means c = taken_concludes _ _ _ _ _ (iff_false c.are_free.ensures c.if-not-are_free.true) c.drop_taken.ensures

pub returns-clause-means : goal.returns-clause-means
returns-clause-means c = free_says _ _ _ _ _ (ready_first _ _ _ c.recall_domains.ensures.domains c.requires) (c.are_free.ensures.0 c.if-not-are_free.false) c.narrow_all.ensures.steps
