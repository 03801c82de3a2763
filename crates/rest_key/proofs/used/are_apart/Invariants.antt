use Rattle.std.proofs.Common.{ℕ, ◌<◌, get_or, ◌≤ℤ◌}
use Rattle.fzn_model.specs.declared.cumulative.Used.{Used}
use Rattle.rest_key.proofs.used.are_apart.Given as goal

abbrev pub invariant-loop-k : goal.invariant-loop-k
invariant-loop-k l = record {
  ends : (j : ℕ) (d : Used) → j < l.k → (get_or l.used j d).from ≤ℤ (get_or l.used j d).to;
  gaps : (j : ℕ) → j < l.k → (i : ℕ) (d : Used) → i < j → (get_or l.used i d).to ≤ℤ (get_or l.used j d).from;
}
