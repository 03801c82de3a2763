use Rattle.std.specs.Prelude.{◌++◌, codes, decimal}
use Rattle.solution_out.proofs.Writing.{wrote_then, wrote_part, wrote_front}
use Rattle.solution_out.specs.Stats.{stat_text}
use Rattle.solution_out.proofs.stats.put_stat.Goals as goal

pub returns-in_err-put_between-clause-text : goal.returns-in_err-put_between-clause-text
unfolding stat_text
returns-in_err-put_between-clause-text g c =
    wrote_front _ _ (codes "%%%mzn-stat: " ++ c.args.name.now ++ codes "=" ++ decimal c.args.count) (codes "\n") _ _ c.from_residual.ensures.0
    (wrote_part _ _ (codes "%%%mzn-stat: " ++ c.args.name.now ++ codes "=") (decimal c.args.count) _ c.in_err-put_between.ensures.text)

pub returns-in_err-put_count-clause-text : goal.returns-in_err-put_count-clause-text
unfolding stat_text
returns-in_err-put_count-clause-text g c =
    wrote_front _ _ (codes "%%%mzn-stat: " ++ c.args.name.now ++ codes "=" ++ decimal c.args.count) (codes "\n") _ _ c.from_residual-in_err-put_count.ensures.0
    (wrote_then _ _ _ (codes "%%%mzn-stat: " ++ c.args.name.now ++ codes "=") _ _ c.in_ok-put_between.ensures.text c.in_err-put_count.ensures.text)

pub returns-clause-text : goal.returns-clause-text
unfolding stat_text
returns-clause-text g c =
    wrote_then _ _ _ (codes "%%%mzn-stat: " ++ c.args.name.now ++ codes "=" ++ decimal c.args.count) _ _
    (wrote_then _ _ _ (codes "%%%mzn-stat: " ++ c.args.name.now ++ codes "=") _ _ c.in_ok-put_between.ensures.text c.in_ok-put_count.ensures.text)
    c.put.ensures.text
