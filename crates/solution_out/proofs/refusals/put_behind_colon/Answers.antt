use Rattle.std.specs.Prelude.{codes}
use Rattle.solution_out.proofs.Writing.{wrote_then, wrote_front}
use Rattle.solution_out.specs.Refusals.{behind_colon}
use Rattle.solution_out.proofs.refusals.put_behind_colon.Goals as goal

pub returns-in_err-put-clause-text : goal.returns-in_err-put-clause-text
unfolding behind_colon
returns-in_err-put-clause-text g c = wrote_front _ _ (codes ": ") c.args.word.now _ _ c.from_residual.ensures.0 c.in_err-put.ensures.text

pub returns-clause-text : goal.returns-clause-text
unfolding behind_colon
returns-clause-text g c = wrote_then _ _ _ (codes ": ") _ _ c.in_ok-put.ensures.text c.put-2.ensures.text
