use Rattle.std.specs.Prelude.{◌++◌, codes, decimal, length}
use Rattle.solution_out.proofs.Writing.{wrote_then, wrote_part, wrote_front}
use Rattle.solution_out.specs.Shows.{array_head, ranges_text}
use Rattle.solution_out.proofs.array.put_array_head.Goals as goal

pub returns-in_err-put-clause-text : goal.returns-in_err-put-clause-text
unfolding array_head
returns-in_err-put-clause-text g c = wrote_front _ _ (codes "array") (decimal (length c.args.dims.now) ++ codes "d(" ++ ranges_text c.args.dims.now) _ _ c.from_residual.ensures.0 c.in_err-put.ensures.text

pub returns-in_err-put_count-clause-text : goal.returns-in_err-put_count-clause-text
unfolding array_head
returns-in_err-put_count-clause-text g c =
    wrote_front _ _ (codes "array" ++ decimal (length c.args.dims.now) ++ codes "d(") (ranges_text c.args.dims.now) _ _ c.from_residual-in_err-put_count.ensures.0
    (wrote_part _ _ (codes "array" ++ decimal (length c.args.dims.now)) (codes "d(") _ (wrote_then _ _ _ (codes "array") _ _ c.in_ok-put.ensures.text c.in_err-put_count.ensures.text))

pub returns-in_err-put-2-clause-text : goal.returns-in_err-put-2-clause-text
unfolding array_head
returns-in_err-put-2-clause-text g c =
    wrote_front _ _ (codes "array" ++ decimal (length c.args.dims.now) ++ codes "d(") (ranges_text c.args.dims.now) _ _ c.from_residual-in_err-put-2.ensures.0
    (wrote_then _ _ _ (codes "array" ++ decimal (length c.args.dims.now)) _ _ (wrote_then _ _ _ (codes "array") _ _ c.in_ok-put.ensures.text c.in_ok-put_count.ensures.text) c.in_err-put-2.ensures.text)

pub returns-clause-text : goal.returns-clause-text
unfolding array_head
returns-clause-text g c =
    wrote_then _ _ _ (codes "array" ++ decimal (length c.args.dims.now) ++ codes "d(") _ _
    (wrote_then _ _ _ (codes "array" ++ decimal (length c.args.dims.now)) _ _ (wrote_then _ _ _ (codes "array") _ _ c.in_ok-put.ensures.text c.in_ok-put_count.ensures.text) c.in_ok-put-2.ensures.text)
    c.put_ranges.ensures.text
