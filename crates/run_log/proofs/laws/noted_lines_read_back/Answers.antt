use Rattle.run_log.proofs.LogTexts.{reads_back}
use Rattle.run_log.proofs.laws.noted_lines_read_back.Goals as goal

pub returns : goal.returns
returns c = reads_back
