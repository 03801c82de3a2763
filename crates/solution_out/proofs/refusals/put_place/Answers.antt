use Rattle.std.specs.Prelude.{codes, decimal}
use Rattle.solution_out.proofs.Writing.{wrote_then, wrote_front}
use Rattle.solution_out.specs.Refusals.{place_text}
use Rattle.solution_out.proofs.refusals.put_place.Goals as goal

pub returns-in_err-put-clause-text : goal.returns-in_err-put-clause-text
unfolding place_text
returns-in_err-put-clause-text g c = wrote_front _ _ (codes "cachesolve: line ") (decimal c.args.line) _ _ c.from_residual.ensures.0 c.in_err-put.ensures.text

pub returns-clause-text : goal.returns-clause-text
unfolding place_text
returns-clause-text g c = wrote_then _ _ _ (codes "cachesolve: line ") _ _ c.in_ok-put.ensures.text c.put_count.ensures.text
