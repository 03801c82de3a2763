use Rattle.solution_out.proofs.Writing.{wrote_then, wrote_front}
use Rattle.solution_out.specs.Stats.{stats}
use Rattle.solution_out.proofs.stats.put_stats.Goals as goal

pub returns-in_err-put_stat-4-clause-text : goal.returns-in_err-put_stat-4-clause-text
unfolding stats
returns-in_err-put_stat-4-clause-text g c =
    wrote_front _ _ _ _ _ _ c.from_residual-in_err-put_stat-4.ensures.0
    (wrote_then _ _ _ _ _ _
    (wrote_then _ _ _ _ _ _ (wrote_then _ _ _ _ _ _ c.in_ok-put_stat.ensures.text c.in_ok-put_stat-2.ensures.text) c.in_ok-put_stat-3.ensures.text)
    c.in_err-put_stat-4.ensures.text)

pub returns-clause-text : goal.returns-clause-text
unfolding stats
returns-clause-text g c =
    wrote_then _ _ _ _ _ _
    (wrote_then _ _ _ _ _ _
    (wrote_then _ _ _ _ _ _ (wrote_then _ _ _ _ _ _ c.in_ok-put_stat.ensures.text c.in_ok-put_stat-2.ensures.text) c.in_ok-put_stat-3.ensures.text)
    c.in_ok-put_stat-4.ensures.text)
    c.put.ensures.text
