use Rattle.run_log.proofs.LogTexts.{no_bad_line}
use Rattle.run_log.proofs.laws.a_bad_line_is_in_no_log.Goals as goal

pub returns : goal.returns
returns c = no_bad_line
