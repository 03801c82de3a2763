use Rattle.incumbent_board.proofs.Verdicts.{has_verdict, one_verdict}
use Rattle.incumbent_board.proofs.agreement.right_answers_agree.Goals as goal

pub returns-clause-verdict : goal.returns-clause-verdict
returns-clause-verdict c = has_verdict

pub returns-clause-one : goal.returns-clause-one
returns-clause-one c = one_verdict
