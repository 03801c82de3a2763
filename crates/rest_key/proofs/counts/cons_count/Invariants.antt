use Rattle.std.proofs.Common.{◌≡◌, ◌+◌, ◌*◌, ◌≤◌, drop}
use Rattle.fzn_model.specs.Values.{largest}
use Rattle.rest_key.specs.Counts.{cons_count}
use Rattle.rest_key.proofs.counts.cons_count.Given as goal

abbrev pub invariant-loop-con : goal.invariant-loop-con
invariant-loop-con l = record {
  so_far : l.count + cons_count (drop l.con-index l.cons) ≡ cons_count l.cons;
  small : l.count ≤ l.con-index * (36000006 + 2 * largest);
}
