use Rattle.std.proofs.lemmas.Int.{to_z-of_z}
use Rattle.solution_out.proofs.Writing.{wrote_then}
use Rattle.solution_out.specs.Shows.{range_text}
use Rattle.solution_out.proofs.array.put_range.Goals as goal

pub returns-clause-text : goal.returns-clause-text
unfolding range_text
returns-clause-text g c =
    let low_fits = c.ranges.low in
    let high_fits = c.ranges.high in
    wrote_then _ _ _ _ _ _
    (wrote_then _ _ _ _ _ _ (simp to_z-of_z at c.in_ok-put_number.ensures.text) c.in_ok-put.ensures.text)
    (simp to_z-of_z at c.put_number-2.ensures.text)
