use Rattle.std.proofs.Common.{◌≡◌, take, map, fold, pos}
use Rattle.std.specs.Prelude.{◌≤ℤ◌}
use Rattle.std.specs.Int.{int_max}
use Rattle.fzn_model.specs.declared.cumulative.Used.{Used}
use Rattle.rest_forms.proofs.peak.greatest_amount.Given as goal

abbrev pub invariant-loop-run : goal.invariant-loop-run
invariant-loop-run l = record {
  value : l.greatest ≡ fold int_max (pos 0) (map (λ (u : Used). u.amount) (take l.run-index l.runs));
  some : pos 0 ≤ℤ l.greatest;
}
