use Rattle.dom_store.specs.Kept.{kept_by, reached_by}
use Rattle.dom_store.proofs.Stepping.{narrows_term, narrows_alone, reached_not_empty}
use Rattle.dom_store.proofs.terms.narrow_term.Goals as goal

pub returns-clause-narrows : goal.returns-clause-narrows
returns-clause-narrows c = narrows_term (kept_by c.args.cut) (reached_by c.args.cut c.args.term) c.args.term c.args.store.now c.narrow_either-answer.new.store c.narrow_either-answer.result c.passed.result c.narrow_either-answer.ensures.cuts c.narrow_either-answer.ensures.reached c.narrow_either-answer.ensures.well_formed c.passed.ensures

pub returns-clause-alone : goal.returns-clause-alone
returns-clause-alone c = narrows_alone (kept_by c.args.cut) c.args.term c.args.store.now c.narrow_either-answer.new.store c.narrow_either-answer.result c.passed.result c.narrow_either-answer.ensures.cuts c.passed.ensures

pub returns-clause-reached : goal.returns-clause-reached
returns-clause-reached c = λ some. c.narrow_either-answer.ensures.reached (reached_not_empty c.narrow_either-answer.result c.passed.result c.passed.ensures some)
