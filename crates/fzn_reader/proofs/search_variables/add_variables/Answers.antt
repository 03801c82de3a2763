use Rattle.fzn_reader.proofs.SearchLemmas.{variables_step}
use Rattle.fzn_reader.proofs.search_variables.add_variables.Goals as goal

pub loop-term-preserved : goal.loop-term-preserved
loop-term-preserved c = record {
  told = variables_step c.loop-term.vars _ _ c.args.terms.now c.loop-term.term-index _ c.loop-term-test.true c.in_ok-add_variable.ensures.value c.loop-term.invariant.told;
  kept = λ n p q. c.in_ok-add_variable.ensures.kept n (p c.loop-term.term-index _ c.loop-term-test.true) (c.loop-term.invariant.kept n p q);
}
