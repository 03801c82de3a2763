use Rattle.fzn_builtin.proofs.ArgumentsRead.{arguments_are_read}
use Rattle.fzn_builtin.proofs.laws.arguments_are_read.Goals as goal

pub returns : goal.returns
returns c = arguments_are_read
