use Rattle.std.specs.Prelude.{codes}
use Rattle.solution_out.proofs.Writing.{wrote_front}
use Rattle.solution_out.specs.Shows.{next_text, term_text}
use Rattle.solution_out.proofs.values.put_next_term.Goals as goal

pub returns-in_err-put-clause-text : goal.returns-in_err-put-clause-text
unfolding next_text
returns-in_err-put-clause-text g c = wrote_front _ _ (codes ", ") (term_text c.args.truth c.args.values.now c.args.term) _ _ c.from_residual.ensures.0 c.in_err-put.ensures.text
