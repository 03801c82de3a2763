use Rattle.std.specs.Prelude.{codes}
use Rattle.solution_out.proofs.Writing.{wrote_front}
use Rattle.solution_out.specs.Shows.{reason_text}
use Rattle.solution_out.proofs.answers.put_unknown.Goals as goal

pub returns-in_err-put-clause-text : goal.returns-in_err-put-clause-text
returns-in_err-put-clause-text g c = wrote_front _ _ (codes "=====UNKNOWN=====\n") (reason_text c.args.why) _ _ c.from_residual.ensures.0 c.in_err-put.ensures.text
