use Rattle.solution_out.proofs.Writing.{wrote_then}
use Rattle.solution_out.proofs.text.put_between.Goals as goal

pub returns-clause-text : goal.returns-clause-text
returns-clause-text g c = wrote_then _ _ _ _ _ _ (wrote_then _ _ _ _ _ _ c.in_ok-put.ensures.text c.in_ok-put-2.ensures.text) c.put-3.ensures.text
