use Rattle.std.proofs.Common.{ℕ, ◌+◌, ◌*◌, ◌<◌, length}
use Rattle.std.specs.Prelude.{slice_range}
use Rattle.fzn_model.specs.Meaning.{IsRow}
use Rattle.fzn_model.proofs.table.table_holds.Given as goal

abbrev pub invariant-loop-k : goal.invariant-loop-k
invariant-loop-k l = (k : ℕ) → k < l.k → IsRow l.terms (slice_range l.rows (k * length l.terms) (k * length l.terms + length l.terms)) l.values → ⊥
