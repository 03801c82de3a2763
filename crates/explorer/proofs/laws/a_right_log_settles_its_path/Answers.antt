use Rattle.explorer.proofs.Logs.{right_settles}
use Rattle.explorer.proofs.laws.a_right_log_settles_its_path.Goals as goal

pub returns : goal.returns
returns c = right_settles
