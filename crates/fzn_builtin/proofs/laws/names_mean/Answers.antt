use Rattle.fzn_builtin.proofs.Meanings.{names_mean}
use Rattle.fzn_builtin.proofs.laws.names_mean.Goals as goal

pub returns : goal.returns
returns c = names_mean
