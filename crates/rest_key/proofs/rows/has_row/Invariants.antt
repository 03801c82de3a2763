use Rattle.std.proofs.Common.{ℕ, ◌<◌, ◌≡◌}
use Rattle.rest_key.specs.Weaker.{row_at}
use Rattle.rest_key.proofs.rows.has_row.Given as goal

abbrev pub invariant-loop-k : goal.invariant-loop-k
invariant-loop-k l = (j : ℕ) → j < l.k → row_at l.rows l.width j ≡ l.row → ⊥
