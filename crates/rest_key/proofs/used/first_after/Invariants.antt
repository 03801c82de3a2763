use Rattle.std.proofs.Common.{ℕ, ◌-◌, ◌<◌, ◌≤◌, length, get_or, ◌<ℤ◌, ◌≤ℤ◌}
use Rattle.fzn_model.specs.declared.cumulative.Used.{Used}
use Rattle.rest_key.proofs.used.first_after.Given as goal

abbrev pub invariant-loop-first : goal.invariant-loop-first
invariant-loop-first l = record {
  order : l.first ≤ l.end;
  bound : l.end ≤ length l.used;
  before : (k : ℕ) (d : Used) → k < l.first → (get_or l.used k d).to ≤ℤ l.moment;
  after : (k : ℕ) (d : Used) → l.end ≤ k → k < length l.used → l.moment <ℤ (get_or l.used k d).to;
}

abbrev pub decreases-loop-first : goal.decreases-loop-first
decreases-loop-first l = l.end - l.first
