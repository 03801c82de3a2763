use Rattle.cumul_prop.proofs.Owing.{ready_first, pass_none, pass_says_of}
use Rattle.cumul_prop.proofs.pass_cumulative.pass_cumulative.Goals as goal

pub returns-in-Empty-clause-means : goal.returns-in-Empty-clause-means
returns-in-Empty-clause-means c = pass_none c.args.tasks.now c.args.used.now c.args.capacity c.args.store.now c.sign_terms.new.store c.in-Empty.ensures

pub returns-clause-means : goal.returns-clause-means
returns-clause-means c = pass_says_of c.args.tasks.now c.args.used.now c.args.capacity c.args.store.now c.sign_terms.new.store c.narrow_starts.new.store c.narrow_starts.result
    (ready_first c.args.store.now.box c.args.tasks.now c.args.used.now c.args.capacity c.recall_domains.ensures.domains c.requires) c.in-Done.ensures c.narrow_starts.ensures.steps
