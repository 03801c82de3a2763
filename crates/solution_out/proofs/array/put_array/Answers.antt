use Rattle.solution_out.proofs.Writing.{wrote_then}
use Rattle.solution_out.specs.Shows.{array_text}
use Rattle.solution_out.proofs.array.put_array.Goals as goal

pub returns-clause-text : goal.returns-clause-text
unfolding array_text
returns-clause-text g c = wrote_then _ _ _ _ _ _ (wrote_then _ _ _ _ _ _ (wrote_then _ _ _ _ _ _ c.in_ok-put_array_head.ensures.text c.in_ok-put.ensures.text) c.in_ok-put_values.ensures.text) c.put-2.ensures.text
