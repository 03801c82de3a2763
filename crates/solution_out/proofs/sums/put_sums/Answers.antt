use Rattle.std.specs.Prelude.{◌++◌, codes}
use Rattle.solution_out.proofs.Writing.{wrote_then, wrote_front}
use Rattle.solution_out.specs.Sums.{verdict_text}
use Rattle.solution_out.proofs.sums.put_sums.Goals as goal

pub returns-in_err-put_between-clause-text : goal.returns-in_err-put_between-clause-text
returns-in_err-put_between-clause-text g c = wrote_front _ _ (codes "make " ++ c.args.word.now ++ codes "\n") (verdict_text c.args.model.now.goal c.args.answer.now) _ _ c.from_residual.ensures.0 c.in_err-put_between.ensures.text

pub returns-clause-text : goal.returns-clause-text
returns-clause-text g c = wrote_then _ _ _ (codes "make " ++ c.args.word.now ++ codes "\n") _ _ c.in_ok-put_between.ensures.text c.put_verdict.ensures.text
