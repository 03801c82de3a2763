-- What contracts see of a miss. It is this project's own.
use Rattle.std.specs.Prelude.{ℕ, List, ℤ}
use Rattle.fzn_model.specs.Rests.{RestParts}
use Rattle.evictor.specs.declared.report.Report.{Report}

-- The residual problem that was looked up and the bound that it needs, a report for each
-- word, and the places of the words.
pub record MissedParts : Type 0 where
  pub rest : RestParts
  pub need : ℤ
  pub reports : List Report
  pub places : List ℕ
