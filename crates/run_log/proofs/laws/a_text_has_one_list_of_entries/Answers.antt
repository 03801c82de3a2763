use Rattle.run_log.proofs.LogTexts.{one_list}
use Rattle.run_log.proofs.laws.a_text_has_one_list_of_entries.Goals as goal

pub returns : goal.returns
returns c = one_list
