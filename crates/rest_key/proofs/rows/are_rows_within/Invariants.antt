use Rattle.std.proofs.Common.{ℕ, ◌<◌}
use Rattle.rest_key.specs.Weaker.{row_at, IsOneRow}
use Rattle.rest_key.proofs.rows.are_rows_within.Given as goal

abbrev pub invariant-loop-k : goal.invariant-loop-k
invariant-loop-k l = (j : ℕ) → j < l.k → IsOneRow l.width l.others (row_at l.rows l.width j)
