use Rattle.std.specs.Prelude.{codes}
use Rattle.run_log.proofs.Buffering.{buffered_front}
use Rattle.run_log.proofs.pieces.put_number.Goals as goal

pub returns-in_err-put-clause-text : goal.returns-in_err-put-clause-text
returns-in_err-put-clause-text g c = buffered_front _ _ (codes " ") _ _ _ c.from_residual.ensures.0 c.in_err-put.ensures.text
