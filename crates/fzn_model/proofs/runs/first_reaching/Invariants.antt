use Rattle.std.proofs.Common.{ℕ, ◌-◌, ◌<◌, ◌≤◌, length, get_or, ℤ, ◌<ℤ◌, ◌≤ℤ◌}
use Rattle.fzn_model.proofs.runs.first_reaching.Given as goal

abbrev pub invariant-loop-first : goal.invariant-loop-first
invariant-loop-first l = record {
  order : l.first ≤ l.end;
  bound : l.end ≤ length l.runs;
  before : (k : ℕ) (d : ℤ × ℤ) → k < l.first → (get_or l.runs k d).1 <ℤ l.value;
  after : (k : ℕ) (d : ℤ × ℤ) → l.end ≤ k → k < length l.runs → l.value ≤ℤ (get_or l.runs k d).1;
}

abbrev pub decreases-loop-first : goal.decreases-loop-first
decreases-loop-first l = l.end - l.first
